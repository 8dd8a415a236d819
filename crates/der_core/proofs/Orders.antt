-- What comparing parts says of the whole.
use Rattle.std.proofs.Common.{◌≡◌, subst, inl, inr, ◌⊎◌, refl}
use Rattle.std.specs.Prelude.{Result, IfOk}
use Rattle.std.specs.declared.cmp.Ordering.{Ordering}
use Rattle.std.specs.declared.cmp.Ordering.TheVariants.{Less, Equal, Greater}
use Rattle.std.specs.Ordering.{ordering_then}
use Rattle.asn1_core.specs.declared.error.Error.{Error}
use Rattle.asn1_core.specs.declared.error.Error.TheVariants.{Malformed, Overlength}
use Rattle.der_core.specs.Order.{Unordered}

-- a result that is not Equal decides
pub decides : (h q : Ordering) → (h ≡ Equal → ⊥) → h ≡ ordering_then h q
decides Less q not = refl
decides Equal q not = absurd (not refl)
decides Greater q not = refl

pub answers : (r : Result Ordering Error) (a b : Ordering) → a ≡ b → IfOk r (λ o. o ≡ a) → IfOk r (λ o. o ≡ b)
answers r a b e h = subst (λ (x : Ordering). IfOk r (λ o. o ≡ x)) e h

pub of_first : (bad bad2 over over2 : Type 0) (e : Error) → ((e ≡ Malformed) × bad) ⊎ ((e ≡ Overlength) × over) → Unordered (bad ⊎ bad2) (over ⊎ over2) e
of_first bad bad2 over over2 e (inl h) = inl (h.0, inl h.1)
of_first bad bad2 over over2 e (inr h) = inr (h.0, inl h.1)

pub of_second : (bad bad2 over over2 : Type 0) (e : Error) → ((e ≡ Malformed) × bad2) ⊎ ((e ≡ Overlength) × over2) → Unordered (bad ⊎ bad2) (over ⊎ over2) e
of_second bad bad2 over over2 e (inl h) = inl (h.0, inr h.1)
of_second bad bad2 over over2 e (inr h) = inr (h.0, inr h.1)

-- Refusals before anything is written.
use Rattle.std.proofs.Common.{◌≡◌, ℕ, ◌+◌, List, length, None, sym, subst, inl, inr, ◌⊎◌, arith, ◌∙◌, ap}
use Rattle.asn1_core.specs.Der.{el, len, IsHeader}
use Rattle.asn1_core.specs.Writing.{Cause, IsOverlong}
use Rattle.asn1_core.specs.WritingLaws.{el_size}
use Rattle.asn1_core.specs.declared.error.Error.{Error}
use Rattle.asn1_core.specs.declared.error.Error.TheVariants.{Malformed, Overlength}

pub refused : (bad over : Type 0) (e : Error) → ((e ≡ Malformed) × bad) ⊎ ((e ≡ Overlength) × over) → Cause bad over (Unit {0}) None 0 0 0 e
refused bad over e (inl h) = subst (λ (d : Error). Cause bad over (Unit {0}) None 0 0 0 d) (sym h.0) h.1
refused bad over e (inr h) = subst (λ (d : Error). Cause bad over (Unit {0}) None 0 0 0 d) (sym h.0) h.1

-- an element whose header would be too long is too long
pub overlong : (t n : ℕ) (v : List ℕ) → n ≡ length v → (IsHeader n → ⊥) → IsOverlong (length (el t v))
overlong t n v is not = let s : length (el t v) ≡ 1 + length (len n) + n = el_size t v ∙ ap (λ (k : ℕ). 1 + length (len k) + k) (sym is) in omega (arith, s, not)

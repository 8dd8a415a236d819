-- Why two public keys are not compared: their keys are not.
use Rattle.std.proofs.Common.{◌⊎◌, ◌++◌, ℕ, List, length, Result, Ok, Err, refl, inl, inr, arith, length-append}
use Rattle.std.specs.Prelude.{IfErr}
use Rattle.asn1_core.specs.Der.{el}
use Rattle.asn1_core.specs.ElementLaws.{el_length}
use Rattle.asn1_core.specs.Writing.{IsOverlong}
use Rattle.asn1_core.specs.declared.error.Error.{Error as Below}
use Rattle.der_core.specs.Order.{Unordered}

abbrev unordered : (A B C D : Type 0) → (A → C) → (B → D) → (e : Below) → Unordered A B e → Unordered C D e
unordered A B C D f g e (inl h) = inl (h.0, f h.1)
unordered A B C D f g e (inr h) = inr (h.0, g h.1)

pub unordered_more : {X : Type 0} (A B C D : Type 0) → (A → C) → (B → D) → (r : Result X Below) → IfErr r (λ e. Unordered A B e) → IfErr r (λ e. Unordered C D e)
unordered_more A B C D f g (Ok x) h = tt
unordered_more A B C D f g (Err e) h = unordered A B C D f g e h

-- a text after another is not longer than both
pub overlong_behind : (a : List ℕ) (t : ℕ) (v : List ℕ) → IsOverlong (length v) → IsOverlong (length (a ++ el t v))
overlong_behind a t v h = omega (arith, h, length-append a (el t v), el_length t (length v) v refl)

module _ (P Q R S : Type 0) where
  pub of_keys : (¬ Q) ⊎ (¬ S) → (¬ (P × Q)) ⊎ (¬ (R × S))
  of_keys (inl n) = inl (λ w. n w.1)
  of_keys (inr n) = inr (λ w. n w.1)

pub overlong_keys : (a b : List ℕ) (t u : ℕ) (v w : List ℕ) → IsOverlong (length v) ⊎ IsOverlong (length w) → IsOverlong (length (a ++ el t v)) ⊎ IsOverlong (length (b ++ el u w))
overlong_keys a b t u v w (inl h) = inl (overlong_behind a t v h)
overlong_keys a b t u v w (inr h) = inr (overlong_behind b u w h)

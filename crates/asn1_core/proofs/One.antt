-- No text of an exactly read relation begins another, and one text has one value.
use Rattle.std.proofs.Common.{◌≡◌, ℕ, List, ◌++◌, Ok, sym, ap, ◌∙◌}
use Rattle.std.proofs.lemmas.List.{append_cancel_right}
use Rattle.asn1_core.specs.Reading.{Front}
use Rattle.asn1_core.specs.Der.{IsShort}
use Rattle.asn1_core.specs.ExactLaws.{ok_is}
use Rattle.asn1_core.specs.Texts.{Exact}

pub record Same {A : Type 0} (a b x y : List ℕ) (v w : A) : Type 0 where
  pub text : a ≡ b
  pub rest : x ≡ y
  pub value : v ≡ w

pub one : {A : Type 0} (R : List ℕ → A → Type 0) (at : Front A) → Exact R at → (a b x y : List ℕ) (v w : A) → R a v → R b w → IsShort a → IsShort b → a ++ x ≡ b ++ y → Same a b x y v w
one {A = A} R at exact a b x y v w r s short short' e =
    let first : at (a ++ x) ≡ Ok (v, x) = exact.again a v x r short in
    let second : at (a ++ x) ≡ Ok (w, y) = ap at e ∙ exact.again b w y s short' in
    let both = ok_is (v, x) (w, y) (sym first ∙ second) in
    let rest : x ≡ y = ap (λ (p : A × List ℕ). p.1) both in
    record { text = append_cancel_right a b x (e ∙ ap (λ (z : List ℕ). b ++ z) (sym rest)); rest = rest; value = ap (λ (p : A × List ℕ). p.0) both }

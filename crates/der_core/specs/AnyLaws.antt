-- lemmas only: nothing to believe here
-- Any element: it is read exactly, and has one spelling.
use Rattle.std.specs.Prelude.{◌↔◌}
use Rattle.std.proofs.Common.{◌≡◌, ℕ, List, Result, Ok, refl, sym, ap, ◌∙◌, IsTrue}
use Rattle.asn1_core.specs.Der.{el, is_tag}
use Rattle.asn1_core.specs.Reading.{Fault}
use Rattle.asn1_core.specs.Texts.{ExactAll}
use Rattle.asn1_core.specs.ExactLaws.{ok_is}
use Rattle.der_core.specs.Any.{AnyOf, AnyText, any_of}

abbrev done : ℕ × List ℕ → Result (ℕ × List ℕ) Fault
done w = Ok w

pub any_of-exact : (t : ℕ) → ExactAll (AnyOf t) (any_of t)
any_of-exact t = record { found = λ b v e. sym (ok_is (t, b) v e); again = λ b v r short. ap done (sym r) }

pub any_canonical : (t : ℕ) (w : List ℕ) → IsTrue (is_tag t) → AnyText (el t w) (t, w)
any_canonical t w h = (t, w, h, refl, refl, refl)

any_to : (t : ℕ) (w b : List ℕ) → AnyText b (t, w) → b ≡ el t w
any_to t w b (u, x, ok, can, is, e) = e ∙ ap (λ (z : ℕ × List ℕ). el z.0 z.1) (sym is)

pub any_spelled : (t : ℕ) (w b : List ℕ) → IsTrue (is_tag t) → AnyText b (t, w) ↔ (Unit {0} × (b ≡ el t w))
any_spelled t w b ok = (λ r. (tt, any_to t w b r), λ h. (t, w, ok, refl, refl, h.1))

-- lemmas only: nothing to believe here
-- What is read whole, by the spellings of its value.
use Rattle.std.specs.Prelude.{◌↔◌}
use Rattle.std.proofs.Common.{◌≡◌, ℕ, List, Ok}
use Rattle.asn1_core.specs.Der.{IsShort}
use Rattle.asn1_core.specs.Reading.{Front, whole}
use Rattle.asn1_core.specs.Texts.{Exact}
use Rattle.asn1_core.specs.ExactLaws.{whole-exact}
use Rattle.asn1_core.specs.StandLaws.{whole_found}
use Rattle.spki.specs.Spelling.{IsReadWhere}

module _ {V : Type 0} (T : List ℕ → V → Type 0) (at : Front V) (exact : Exact T at) where
  pub read_where : (b : List ℕ) (v : V) (W S : Type 0) → T b v ↔ (W × S) → IsReadWhere at b v W S
  read_where b v W S spelled = (
    λ e. let r = whole_found T at exact b v e in let h = spelled.0 r.0 in (h.0, h.1, r.1),
    λ h. (whole-exact T at exact).again b v (spelled.1 (h.0, h.1)) h.2,
  )

  -- where each value has a text
  pub read_alone : (b : List ℕ) (v : V) (S : Type 0) → T b v ↔ (Unit {0} × S) → (whole at b ≡ Ok v) ↔ (S × IsShort b)
  read_alone b v S spelled = (
    λ e. let r = whole_found T at exact b v e in ((spelled.0 r.0).1, r.1),
    λ h. (whole-exact T at exact).again b v (spelled.1 (tt, h.0)) h.1,
  )

-- lemmas only: nothing to believe here
-- The numbers of versions.
use Rattle.std.specs.Prelude.{◌↔◌}
use Rattle.std.proofs.Common.{◌≡◌, ◌≤◌, ℕ, List, Bool, true, false, refl, sym, ◌∙◌, arith}
use Rattle.asn1_core.specs.Der.{uint}
use Rattle.asn1_core.specs.Texts.{Within, UintOf}
use Rattle.der_core.specs.StringLaws.{uint_spelled}
use Rattle.pkcs8.specs.declared.version.Version.{Version}
use Rattle.pkcs8.specs.declared.version.Version.TheVariants.{V1, V2}
use Rattle.pkcs8.specs.Version.{version_number}

pub version_small : (v : Version) → version_number v ≤ 1
version_small V1 = omega arith
version_small V2 = omega arith

pub version_spelled : (b : List ℕ) (v : Version) → Within 2 (UintOf 1) b (version_number v) ↔ (Unit {0} × (b ≡ uint (version_number v)))
version_spelled b v = (
  λ r. (tt, ((uint_spelled 1 b (version_number v)).0 r).1),
  λ h. (uint_spelled 1 b (version_number v)).1 (version_small v, h.1),
)

-- the versions' test, by its four results
module _ (q : Version → Version → Bool) (one : q V1 V1 ≡ true) (up : q V1 V2 ≡ false) (down : q V2 V1 ≡ false) (two : q V2 V2 ≡ true) where
  pub version_same : (v w : Version) → (version_number v ≡ version_number w → q v w ≡ true) × (q v w ≡ true → version_number v ≡ version_number w)
  version_same V1 V1 = (λ e. one, λ h. refl)
  version_same V1 V2 = (λ e. absurd cc, λ h. let f : true ≡ false = sym h ∙ up in absurd cc)
  version_same V2 V1 = (λ e. absurd cc, λ h. let f : true ≡ false = sym h ∙ down in absurd cc)
  version_same V2 V2 = (λ e. two, λ h. refl)

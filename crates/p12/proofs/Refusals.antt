-- What is read cannot be refused: only memory may lack.
use Rattle.std.proofs.Common.{◌≡◌, Result, Ok, refl, sym, ◌∙◌}
use Rattle.asn1_core.specs.Reading.{Fault}
use Rattle.asn1_core.specs.Gives.{Fails}
use Rattle.asn1_core.specs.declared.error.Error.{Error}
use Rattle.asn1_core.specs.declared.error.Error.TheVariants as errors

pub is_memory : {Y : Type 0} (r : Result Y Fault) (y : Y) (e : Error) → r ≡ Ok y → Fails (Unit {0}) e r → e ≡ errors.Memory
is_memory r y errors.Malformed h f = absurd (let t = sym f ∙ h in cc)
is_memory r y (errors.OidUnknown o) h f = absurd (let t = sym f ∙ h in cc)
is_memory r y errors.Overlength h f = absurd f
is_memory r y errors.NoRoom h f = absurd f
is_memory r y errors.File h f = absurd f
is_memory r y errors.Memory h f = refl

pub only_memory : {Y Z : Type 0} (r : Result Y Fault) (y : Y) (e : Error) (s : Result Z Fault) → r ≡ Ok y → Fails (Unit {0}) e r → Fails (Unit {0}) e s
only_memory r y errors.Malformed s h f = absurd (let t = sym f ∙ h in cc)
only_memory r y (errors.OidUnknown o) s h f = absurd (let t = sym f ∙ h in cc)
only_memory r y errors.Overlength s h f = absurd f
only_memory r y errors.NoRoom s h f = absurd f
only_memory r y errors.File s h f = absurd f
only_memory r y errors.Memory s h f = tt

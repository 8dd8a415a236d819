-- Why a private key is not written.
use Rattle.std.specs.Prelude.{⊤, ◌⊎◌, ℕ, List, length}
use Rattle.asn1_core.specs.Der.{IsShort}
use Rattle.asn1_core.specs.Writing.{IsOverlong}
use Rattle.asn1_core.specs.declared.error.Error.TheVariants as asn1
use Rattle.der_core.specs.Document.{IsSequence}
use Rattle.pkcs8.specs.declared.error.Error.{Error}
use Rattle.pkcs8.specs.declared.error.Error.TheVariants as errors

-- it has no text, which `writable` says that it has; or that text m is too long; or there is no
-- memory
abbrev pub RefusesToWrite : Type 0 → List ℕ → Error → Type 0
RefusesToWrite writable m (errors.Asn1 asn1.Malformed) = ¬ writable ⊎ (IsShort m × ¬ IsSequence m)
RefusesToWrite writable m (errors.Asn1 asn1.Overlength) = IsOverlong (length m)
RefusesToWrite writable m errors.Memory = ⊤
RefusesToWrite writable m e = ⊥

-- Why no key is read from a file: a call on the file failed, it has too many octets, it is no
-- public key, or the key is refused.
use Rattle.std.specs.Prelude.{◌≡◌, ◌⊎◌}
use Rattle.asn1_core.specs.declared.error.Error.TheVariants as below
use Rattle.spki.specs.declared.error.Error.{Error}
use Rattle.spki.specs.declared.error.Error.TheVariants as errors
use Rattle.spki.specs.Seen.{AnyPublicKey}

abbrev pub IsUnread : (AnyPublicKey → Error → Type 0) → Error → Type 0
IsUnread refuses e = (e ≡ errors.Asn1 below.File) ⊎ (e ≡ errors.Asn1 below.Overlength)
    ⊎ (e ≡ errors.Asn1 below.Malformed) ⊎ (e ≡ errors.Memory) ⊎ ((i : AnyPublicKey) × refuses i e)

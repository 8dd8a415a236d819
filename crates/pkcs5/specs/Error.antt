-- Refusals: of parameters, and how they are printed.
use Rattle.std.specs.Prelude.{◌≡◌, ◌++◌, List, ℕ, codes}
use Rattle.asn1_core.specs.Arcs.{arcs, arcs_text}
use Rattle.asn1_core.specs.Oid.{oid_octets}
use Rattle.asn1_core.specs.declared.identifier.ObjectIdentifier.{ObjectIdentifier}
use Rattle.pkcs5.specs.declared.error.Error.{Error}
use Rattle.pkcs5.specs.declared.error.Error.TheVariants as errors

-- the parameters of the algorithm with this identifier are refused
abbrev pub InvalidOf : List ℕ → Error → Type 0
InvalidOf id e = (o : ObjectIdentifier) × (oid_octets o ≡ id)
    × (e ≡ errors.AlgorithmParametersInvalid o)

abbrev pub error_text : Error → List ℕ
error_text (errors.AlgorithmParametersInvalid o) =
    codes "PKCS#5 parameters for algorithm " ++ arcs_text (arcs (oid_octets o))
    ++ codes " are invalid"
error_text errors.DecryptFailed = codes "PKCS#5 decryption failed"
error_text errors.EncryptFailed = codes "PKCS#5 encryption failed"
error_text errors.NoPbes1CryptSupport =
    codes "PKCS#5 encryption/decryption unsupported for PBES1 (won't fix)"
error_text errors.Rng = codes "random number generation failure"
error_text (errors.UnsupportedAlgorithm o) =
    codes "PKCS#5 algorithm " ++ arcs_text (arcs (oid_octets o)) ++ codes " is unsupported"
error_text errors.Memory = codes "out of memory"

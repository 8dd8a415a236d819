-- Errors of private keys, by those of the crates below, and how they are printed.
use Rattle.std.specs.Prelude.{◌++◌, List, ℕ, codes}
use Rattle.asn1_core.specs.Error.{error_text as asn1_text}
use Rattle.asn1_core.specs.declared.error.Error.{Error as Asn1Error}
use Rattle.asn1_core.specs.declared.error.Error.TheVariants as asn1
use Rattle.pkcs5.specs.Error.{error_text as pkcs5_text}
use Rattle.pkcs5.specs.declared.error.Error.{Error as Pkcs5Error}
use Rattle.pkcs5.specs.declared.error.Error.TheVariants as pkcs5
use Rattle.spki.specs.Error.{error_text as spki_text}
use Rattle.spki.specs.declared.error.Error.{Error as SpkiError}
use Rattle.spki.specs.declared.error.Error.TheVariants as spki
use Rattle.pkcs8.specs.declared.error.Error.{Error}
use Rattle.pkcs8.specs.declared.error.Error.TheVariants as errors
use Rattle.pkcs8.specs.declared.error.KeyError.{KeyError}
use Rattle.pkcs8.specs.declared.error.KeyError.TheVariants as keys

-- an error of a text, here
abbrev pub of_asn1 : Asn1Error → Error
of_asn1 asn1.Malformed = errors.Asn1 asn1.Malformed
of_asn1 (asn1.OidUnknown o) = errors.Asn1 (asn1.OidUnknown o)
of_asn1 asn1.Overlength = errors.Asn1 asn1.Overlength
of_asn1 asn1.NoRoom = errors.Asn1 asn1.NoRoom
of_asn1 asn1.File = errors.Asn1 asn1.File
of_asn1 asn1.Memory = errors.Memory

-- an error of encryption, here
abbrev pub of_pkcs5 : Pkcs5Error → Error
of_pkcs5 (pkcs5.AlgorithmParametersInvalid o) =
    errors.EncryptedPrivateKey (pkcs5.AlgorithmParametersInvalid o)
of_pkcs5 pkcs5.DecryptFailed = errors.EncryptedPrivateKey pkcs5.DecryptFailed
of_pkcs5 pkcs5.EncryptFailed = errors.EncryptedPrivateKey pkcs5.EncryptFailed
of_pkcs5 pkcs5.NoPbes1CryptSupport = errors.EncryptedPrivateKey pkcs5.NoPbes1CryptSupport
of_pkcs5 pkcs5.Rng = errors.EncryptedPrivateKey pkcs5.Rng
of_pkcs5 (pkcs5.UnsupportedAlgorithm o) = errors.EncryptedPrivateKey (pkcs5.UnsupportedAlgorithm o)
of_pkcs5 pkcs5.Memory = errors.Memory

-- an error of a public key, here
abbrev pub of_spki : SpkiError → Error
of_spki spki.AlgorithmParametersMissing = errors.PublicKey spki.AlgorithmParametersMissing
of_spki (spki.Asn1 e) = errors.PublicKey (spki.Asn1 e)
of_spki spki.KeyMalformed = errors.PublicKey spki.KeyMalformed
of_spki (spki.OidUnknown o) = errors.PublicKey (spki.OidUnknown o)
of_spki spki.Memory = errors.Memory

-- an error of a private key, as one of a public key
abbrev pub as_spki : Error → SpkiError
as_spki (errors.Asn1 e) = spki.Asn1 e
as_spki (errors.EncryptedPrivateKey e) = spki.KeyMalformed
as_spki (errors.KeyMalformed e) = spki.KeyMalformed
as_spki errors.ParametersMalformed = spki.KeyMalformed
as_spki (errors.PublicKey e) = e
as_spki errors.Memory = spki.Memory

-- how the refusals are printed
abbrev pub key_error_text : KeyError → List ℕ
key_error_text keys.Invalid = codes "key invalid"
key_error_text keys.TooShort = codes "key too short"
key_error_text keys.TooLong = codes "key too long"

abbrev pub error_text : Error → List ℕ
error_text (errors.Asn1 e) = codes "PKCS#8 ASN.1 error: " ++ asn1_text e
error_text (errors.EncryptedPrivateKey e) = pkcs5_text e
error_text (errors.KeyMalformed e) = codes "PKCS#8 key malformed: " ++ key_error_text e
error_text errors.ParametersMalformed = codes "PKCS#8 algorithm parameters malformed"
error_text (errors.PublicKey e) = codes "public key error: " ++ spki_text e
error_text errors.Memory = codes "out of memory"

-- Sealed documents (RFC 5958 section 3, RFC 8018 section 6.2): a private key under a password, as a
-- text.
use Rattle.std.specs.Prelude.{◌≡◌, ◌⊎◌, ℕ, List, length, ⊤}
use Rattle.asn1_core.specs.Oid.{oid_octets}
use Rattle.asn1_core.specs.Writing.{IsOverlong}
use Rattle.asn1_core.specs.declared.error.Error.TheVariants as asn1
use Rattle.der_core.specs.Document.{IsSequence}
use Rattle.pkcs5.specs.Generation.{recommended}
use Rattle.pkcs5.specs.Identifiers.{des_cbc_oid}
use Rattle.pkcs5.specs.Kinds.{IsDes}
use Rattle.pkcs5.specs.Opening.{Opens, OpensBy}
use Rattle.pkcs5.specs.Refusals.{RefusesToEncrypt}
use Rattle.pkcs5.specs.SchemeOpening.{SchemeOpens, SchemeRefusesToOpen}
use Rattle.pkcs5.specs.declared.encryption_scheme.EncryptionScheme.{EncryptionScheme}
use Rattle.pkcs5.specs.declared.encryption_scheme.EncryptionScheme.TheVariants.{Pbes2}
use Rattle.pkcs5.specs.declared.error.Error.TheVariants as pkcs5
use Rattle.pkcs5.specs.declared.pbes2.parameters.Parameters.{Parameters}
use Rattle.pkcs8.specs.declared.error.Error.{Error}
use Rattle.pkcs8.specs.declared.error.Error.TheVariants as errors
use Rattle.pkcs8.specs.EncryptedPrivateKeyInfo.{encrypted_key_text}

-- b is the document of the text m under these parameters and the password q
abbrev pub IsSealed : Parameters → List ℕ → List ℕ → List ℕ → Type 0
IsSealed par q m b = (c : List ℕ) × Opens par q c m × (b ≡ encrypted_key_text (Pbes2 par) c)

-- the document of the text m would be too long
abbrev pub IsTooLong : Parameters → List ℕ → List ℕ → Type 0
IsTooLong par q m = (c : List ℕ) × Opens par q c m
    × IsOverlong (length (encrypted_key_text (Pbes2 par) c))

-- why a ciphertext c is not decrypted: it opens to no text, or to one that is no whole SEQUENCE; or
-- there is no memory
abbrev pub RefusesToDecrypt : EncryptionScheme → List ℕ → List ℕ → Error → Type 0
RefusesToDecrypt s q c (errors.EncryptedPrivateKey e) = SchemeRefusesToOpen s q c e
RefusesToDecrypt s q c (errors.Asn1 asn1.Malformed) = (m : List ℕ) × SchemeOpens s q c m
    × ¬ IsSequence m
RefusesToDecrypt s q c errors.Memory = ⊤
RefusesToDecrypt s q c e = ⊥

-- why a text m is not sealed: its parameters encrypt nothing; the document is too long; or there is
-- no memory
abbrev pub RefusesToSeal : Parameters → List ℕ → List ℕ → Error → Type 0
RefusesToSeal par q m (errors.EncryptedPrivateKey e) = RefusesToEncrypt par e
RefusesToSeal par q m (errors.Asn1 asn1.Overlength) = IsTooLong par q m
RefusesToSeal par q m errors.Memory = ⊤
RefusesToSeal par q m e = ⊥

-- the document of the text m under the key k would be too long
abbrev pub IsTooLongUnder : Parameters → List ℕ → List ℕ → Type 0
IsTooLongUnder par k m = (c : List ℕ) × OpensBy par.encryption k c m
    × IsOverlong (length (encrypted_key_text (Pbes2 par) c))

-- why a text m is not sealed under the key k: the cipher is DES; the document is too long; or there
-- is no memory
abbrev pub RefusesToSealUnder : Parameters → List ℕ → List ℕ → Error → Type 0
RefusesToSealUnder par k m (errors.EncryptedPrivateKey (pkcs5.UnsupportedAlgorithm o)) =
    (oid_octets o ≡ des_cbc_oid) × IsDes par.encryption
RefusesToSealUnder par k m (errors.Asn1 asn1.Overlength) = IsTooLongUnder par k m
RefusesToSealUnder par k m errors.Memory = ⊤
RefusesToSealUnder par k m e = ⊥

-- why a private key is not encrypted: it has no text, which `writable` says that it has; its text m
-- is too long; or m is not sealed, for a reason that `refuses` tells
abbrev pub RefusesToEncryptText : Type 0 → (Error → Type 0) → List ℕ → Error → Type 0
RefusesToEncryptText writable refuses m (errors.EncryptedPrivateKey e) = writable
    × refuses (errors.EncryptedPrivateKey e)
RefusesToEncryptText writable refuses m (errors.Asn1 asn1.Malformed) = ¬ writable
RefusesToEncryptText writable refuses m (errors.Asn1 asn1.Overlength) = IsOverlong (length m)
    ⊎ refuses (errors.Asn1 asn1.Overlength)
RefusesToEncryptText writable refuses m errors.Memory = ⊤
RefusesToEncryptText writable refuses m e = ⊥

-- the same where m is sealed under the password q
abbrev pub RefusesToEncryptKey : Type 0 → Parameters → List ℕ → List ℕ → Error → Type 0
RefusesToEncryptKey writable par q m = RefusesToEncryptText writable (RefusesToSeal par q m) m

-- the same where m is sealed under the key k
abbrev pub RefusesToEncryptUnder : Type 0 → Parameters → List ℕ → List ℕ → Error → Type 0
RefusesToEncryptUnder writable par k m =
    RefusesToEncryptText writable (RefusesToSealUnder par k m) m

-- ---- under drawn octets

-- the document of the text m would be too long under the recommended parameters of an
-- initialization vector and a salt of 16 octets each
abbrev pub IsTooLongDrawn : List ℕ → List ℕ → Type 0
IsTooLongDrawn q m = (iv : List ℕ) × (salt : List ℕ) × (length iv ≡ 16) × (length salt ≡ 16)
    × IsTooLong (recommended iv salt) q m

-- why a text m is not sealed under drawn octets, which the draw lacks where `lacks` says so
abbrev pub RefusesToSealDrawn : Type 0 → List ℕ → List ℕ → Error → Type 0
RefusesToSealDrawn lacks q m (errors.EncryptedPrivateKey pkcs5.Rng) = lacks
RefusesToSealDrawn lacks q m (errors.Asn1 asn1.Overlength) = IsTooLongDrawn q m
RefusesToSealDrawn lacks q m errors.Memory = ⊤
RefusesToSealDrawn lacks q m e = ⊥

-- why a private key is not encrypted where m is sealed under drawn octets
abbrev pub RefusesToEncryptDrawn : Type 0 → Type 0 → List ℕ → List ℕ → Error → Type 0
RefusesToEncryptDrawn writable lacks q m =
    RefusesToEncryptText writable (RefusesToSealDrawn lacks q m) m

-- What the calls of a scheme return: under PBES2 (RFC 8018 section 6.2) what those of its
-- parameters do, and nothing is opened or sealed under PBES1.
use Rattle.std.specs.Prelude.{◌≡◌, ℕ, List}
use Rattle.pkcs5.specs.Kinds.{IsDes}
use Rattle.pkcs5.specs.Opening.{FitsKey, IsBehind, Opens, ciphertext_size}
use Rattle.pkcs5.specs.Refusals.{LeftUnopened, RefusesToEncryptIn, RefusesToOpen, RefusesToOpenIn, RefusesToOpenInPlace, RefusesToSeal}
use Rattle.pkcs5.specs.declared.error.Error.{Error}
use Rattle.pkcs5.specs.declared.error.Error.TheVariants as errors
use Rattle.pkcs5.specs.declared.encryption_scheme.EncryptionScheme.{EncryptionScheme}
use Rattle.pkcs5.specs.declared.encryption_scheme.EncryptionScheme.TheVariants.{Pbes1, Pbes2}

-- the ciphertext c opens to the text m under the password q, and the function gives a key for the
-- cipher
abbrev pub SchemeOpens : EncryptionScheme → List ℕ → List ℕ → List ℕ → Type 0
SchemeOpens (Pbes1 a) q c m = ⊥
SchemeOpens (Pbes2 par) q c m = FitsKey par × Opens par q c m

-- the ciphertext c opens to no text under the password q, or the key is refused
abbrev pub SchemeRefusesToOpen : EncryptionScheme → List ℕ → List ℕ → Error → Type 0
SchemeRefusesToOpen (Pbes1 a) q c e = e ≡ errors.NoPbes1CryptSupport
SchemeRefusesToOpen (Pbes2 par) q c e = RefusesToOpen par q c e

-- the same, or there is no memory
abbrev pub SchemeRefusesToOpenIn : EncryptionScheme → List ℕ → List ℕ → Error → Type 0
SchemeRefusesToOpenIn (Pbes1 a) q c e = e ≡ errors.NoPbes1CryptSupport
SchemeRefusesToOpenIn (Pbes2 par) q c e = RefusesToOpenIn par q c e

-- the same in place
abbrev pub SchemeRefusesToOpenInPlace : EncryptionScheme → List ℕ → List ℕ → Error → Type 0
SchemeRefusesToOpenInPlace (Pbes1 a) q c e = e ≡ errors.NoPbes1CryptSupport
SchemeRefusesToOpenInPlace (Pbes2 par) q c e = RefusesToOpenInPlace par q c e

-- what the buffer holds after a refusal to open it
abbrev pub SchemeLeftUnopened : EncryptionScheme → List ℕ → List ℕ → List ℕ → Error → Type 0
SchemeLeftUnopened (Pbes1 a) q before now e = now ≡ before
SchemeLeftUnopened (Pbes2 par) q before now e = LeftUnopened par q before now e

-- what comes after len octets of text where they were decrypted
abbrev pub SchemeIsBehind : EncryptionScheme → List ℕ → List ℕ → ℕ → Type 0
SchemeIsBehind (Pbes1 a) before now len = ⊥
SchemeIsBehind (Pbes2 par) before now len = IsBehind par.encryption before now len

-- the length of the ciphertext of n octets of text
abbrev pub SchemeSizes : EncryptionScheme → ℕ → ℕ → Type 0
SchemeSizes (Pbes1 a) n len = ⊥
SchemeSizes (Pbes2 par) n len = len ≡ ciphertext_size par.encryption n

-- the scheme encrypts, which is PBES2 with another cipher than DES
abbrev pub SchemeEncrypts : EncryptionScheme → Type 0
SchemeEncrypts (Pbes1 a) = ⊥
SchemeEncrypts (Pbes2 par) = ¬ IsDes par.encryption

-- the ciphertext of n octets of text does not fit so much room, or the key or the cipher is refused
abbrev pub SchemeRefusesToSeal : EncryptionScheme → ℕ → ℕ → Error → Type 0
SchemeRefusesToSeal (Pbes1 a) n room e = e ≡ errors.NoPbes1CryptSupport
SchemeRefusesToSeal (Pbes2 par) n room e = RefusesToSeal par n room e

-- the key or the cipher is refused, or there is no memory
abbrev pub SchemeRefusesToEncryptIn : EncryptionScheme → Error → Type 0
SchemeRefusesToEncryptIn (Pbes1 a) e = e ≡ errors.NoPbes1CryptSupport
SchemeRefusesToEncryptIn (Pbes2 par) e = RefusesToEncryptIn par e

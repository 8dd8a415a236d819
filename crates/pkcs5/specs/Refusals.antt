-- When the calls of PBES2 refuse a text, by cases on the error: one with ⊥ never comes. And what a
-- call in place leaves then.
use Rattle.std.specs.Prelude.{◌≡◌, ◌<◌, ◌+◌, ⊤, ℕ, List}
use Rattle.asn1_core.specs.Oid.{oid_octets}
use Rattle.pkcs5.specs.Identifiers.{des_cbc_oid, scrypt_oid}
use Rattle.pkcs5.specs.Kinds.{IsDes, IsScrypt, kdf_oid, key_size}
use Rattle.pkcs5.specs.Opening.{FitsKey, GivesKey, LeftBy, Opens, StatesLength, TakesCosts, ciphertext_size, key_under}
use Rattle.pkcs5.specs.declared.error.Error.{Error}
use Rattle.pkcs5.specs.declared.error.Error.TheVariants as errors
use Rattle.pkcs5.specs.declared.pbes2.encryption_scheme.EncryptionScheme.{EncryptionScheme}
use Rattle.pkcs5.specs.declared.pbes2.kdf.Kdf.{Kdf}
use Rattle.pkcs5.specs.declared.pbes2.parameters.Parameters.{Parameters}

-- ---- the key

-- scrypt does not take its costs, or there is no memory for it; the error names it
abbrev pub RefusesCosts : Kdf → Error → Type 0
RefusesCosts kdf (errors.AlgorithmParametersInvalid o) = (oid_octets o ≡ kdf_oid kdf)
    × ¬ TakesCosts kdf
RefusesCosts kdf errors.Memory = IsScrypt kdf
RefusesCosts kdf e = ⊥

-- the function gives no key of n octets; the error names it. Only scrypt takes memory
abbrev pub RefusesToDerive : Kdf → ℕ → Error → Type 0
RefusesToDerive kdf n (errors.AlgorithmParametersInvalid o) = (oid_octets o ≡ kdf_oid kdf)
    × ¬ GivesKey kdf n
RefusesToDerive kdf n errors.Memory = IsScrypt kdf
RefusesToDerive kdf n e = ⊥

-- the function gives no key for the cipher
abbrev pub RefusesKey : Parameters → Error → Type 0
RefusesKey par (errors.AlgorithmParametersInvalid o) = (oid_octets o ≡ kdf_oid par.kdf)
    × ¬ FitsKey par
RefusesKey par e = ⊥

-- the same, or scrypt is the function and there is no memory
abbrev pub RefusesKeyInPlace : Parameters → Error → Type 0
RefusesKeyInPlace par errors.Memory = IsScrypt par.kdf
RefusesKeyInPlace par e = RefusesKey par e

-- a key by rounds alone: a length is stated that is not the cipher's, and then the function is
-- scrypt
abbrev pub RefusesKeyByRounds : Parameters → Error → Type 0
RefusesKeyByRounds par (errors.AlgorithmParametersInvalid o) = (oid_octets o ≡ kdf_oid par.kdf)
    × ¬ StatesLength par.kdf (key_size par.encryption)
RefusesKeyByRounds par (errors.UnsupportedAlgorithm o) = (oid_octets o ≡ scrypt_oid)
    × StatesLength par.kdf (key_size par.encryption) × IsScrypt par.kdf
RefusesKeyByRounds par e = ⊥

-- ---- decryption

-- the ciphertext c opens to no text under the password q; but first the key is judged
abbrev pub RefusesToOpen : Parameters → List ℕ → List ℕ → Error → Type 0
RefusesToOpen par q c errors.DecryptFailed = FitsKey par × ((m : List ℕ) → ¬ Opens par q c m)
RefusesToOpen par q c e = RefusesKey par e

-- the same, or there is no memory
abbrev pub RefusesToOpenIn : Parameters → List ℕ → List ℕ → Error → Type 0
RefusesToOpenIn par q c errors.Memory = ⊤
RefusesToOpenIn par q c e = RefusesToOpen par q c e

-- the same in place, where only scrypt takes memory
abbrev pub RefusesToOpenInPlace : Parameters → List ℕ → List ℕ → Error → Type 0
RefusesToOpenInPlace par q c errors.Memory = IsScrypt par.kdf
RefusesToOpenInPlace par q c e = RefusesToOpen par q c e

-- the same of a key by rounds alone
abbrev pub RefusesToOpenByRounds : Parameters → List ℕ → List ℕ → Error → Type 0
RefusesToOpenByRounds par q c errors.DecryptFailed = FitsKey par × ¬ IsScrypt par.kdf
    × ((m : List ℕ) → ¬ Opens par q c m)
RefusesToOpenByRounds par q c e = RefusesKeyByRounds par e

-- what the buffer holds after a refusal: in CBC the decrypted blocks where they have no padding,
-- and else what it held
abbrev pub LeftUnopened : Parameters → List ℕ → List ℕ → List ℕ → Error → Type 0
LeftUnopened par q before now errors.DecryptFailed =
    LeftBy par.encryption (key_under par q) before now
LeftUnopened par q before now e = now ≡ before

-- the steps of a refusal: none where the key is refused, and else n
abbrev pub RefusedAfter : ℕ → ℕ → ℕ → Error → Type 0
RefusedAfter n before now errors.DecryptFailed = now ≡ before + n
RefusedAfter n before now e = now ≡ before

-- ---- encryption

-- under a key: the cipher is DES, or then the ciphertext of n octets of text does not fit so much
-- room
abbrev pub RefusesUnder : EncryptionScheme → ℕ → ℕ → Error → Type 0
RefusesUnder cipher n room (errors.UnsupportedAlgorithm o) = (oid_octets o ≡ des_cbc_oid)
    × IsDes cipher
RefusesUnder cipher n room errors.EncryptFailed = ¬ IsDes cipher × (room < ciphertext_size cipher n)
RefusesUnder cipher n room e = ⊥

-- under a key in memory of its own: the cipher is DES, or there is no memory
abbrev pub RefusesUnderIn : EncryptionScheme → Error → Type 0
RefusesUnderIn cipher (errors.UnsupportedAlgorithm o) = (oid_octets o ≡ des_cbc_oid) × IsDes cipher
RefusesUnderIn cipher errors.Memory = ⊤
RefusesUnderIn cipher e = ⊥

-- no text is encrypted: the function gives no key for the cipher, or then the cipher is DES
abbrev pub RefusesToEncrypt : Parameters → Error → Type 0
RefusesToEncrypt par (errors.UnsupportedAlgorithm o) = FitsKey par × (oid_octets o ≡ des_cbc_oid)
    × IsDes par.encryption
RefusesToEncrypt par e = RefusesKey par e

-- the same, or there is no memory
abbrev pub RefusesToEncryptIn : Parameters → Error → Type 0
RefusesToEncryptIn par errors.Memory = ⊤
RefusesToEncryptIn par e = RefusesToEncrypt par e

-- the same in place, or then the ciphertext of n octets of text does not fit so much room
abbrev pub RefusesToSeal : Parameters → ℕ → ℕ → Error → Type 0
RefusesToSeal par n room errors.Memory = IsScrypt par.kdf
RefusesToSeal par n room errors.EncryptFailed = FitsKey par × ¬ IsDes par.encryption
    × (room < ciphertext_size par.encryption n)
RefusesToSeal par n room e = RefusesToEncrypt par e

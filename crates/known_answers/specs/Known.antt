-- What each call returns, by the definitions of the crates; which lines are cases, and which cases
-- hold.
use Rattle.std.specs.Prelude.{◌≡◌, ℕ, ◌^◌, ◌-◌, List, [], ◌∷◌, ◌++◌, drop, length, get_or, codes, Ok}
use Rattle.sha1.specs.Sha1.{sha1}
use Rattle.sha2.specs.Sha256.{sha224, sha256}
use Rattle.sha2.specs.Sha512.{sha384, sha512}
use Rattle.block_core.specs.Aes.{aes_128, inv_aes_128, aes_192, inv_aes_192, aes_256, inv_aes_256}
use Rattle.block_core.specs.Des.{des, inv_des}
use Rattle.block_core.specs.Tdes.{tdes, inv_tdes}
use Rattle.mac_modes.specs.Cbc.{uncbc}
use Rattle.mac_modes.specs.Padding.{padded}
use Rattle.mac_modes.specs.Gcm.{gcm}
use Rattle.mac_modes.specs.Hmac.{hmac}
use Rattle.pbkdf2.specs.Pbkdf2.{pbkdf2}
use Rattle.scrypt_core.specs.Scrypt.{scrypt}
use Rattle.asn1_core.specs.Arcs.{IsText}
use Rattle.asn1_core.specs.Reading.{uint_of, whole}
use Rattle.phc_core.specs.PasswordHash.{Phc, phc_text}
use Rattle.phc_core.specs.declared.password_hash.PasswordHash.{PasswordHash}
use Rattle.pbkdf2.specs.Hashes.{Agrees}
use Rattle.p12.specs.Building.{IsStoreOf, Salts}
use Rattle.p12.specs.Canonical.{store_canon}
use Rattle.pkcs12_kdf.specs.Derivation.{derive12}
use Rattle.pkcs12_kdf.specs.Password.{bmp_password}
use Rattle.p12.specs.Pfx.{IsStore}
use Rattle.p12.specs.declared.pfx.PFX.{PFX}
use Rattle.pkcs5.specs.Scheme.{scheme_text}
use Rattle.pkcs5.specs.SchemeOpening.{SchemeOpens}
use Rattle.pkcs5.specs.declared.encryption_scheme.EncryptionScheme.{EncryptionScheme}
use Rattle.spki.specs.Seen.{AnyPublicKey, IsPublicKey}
use Rattle.spki.specs.Spelling.{public_key_text}
use Rattle.known_answers.specs.declared.call.Call.{Call}
use Rattle.known_answers.specs.declared.call.Call.TheVariants.{Aes128Encrypt, Aes128Decrypt, Aes192Encrypt, Aes192Decrypt, Aes256Encrypt, Aes256Decrypt, DesEncrypt, DesDecrypt, TdesEncrypt, TdesDecrypt, CbcAes128Decrypt, CbcAes192Decrypt, CbcAes256Decrypt, CbcDesDecrypt, CbcTdesDecrypt, GcmAes128Encrypt, GcmAes128Decrypt, GcmAes192Encrypt, GcmAes192Decrypt, GcmAes256Encrypt, GcmAes256Decrypt, HmacSha1, HmacSha224, HmacSha256, HmacSha384, HmacSha512, Pbkdf2Sha1, Pbkdf2Sha256, Pbkdf2Sha512, Scrypt, Pkcs12Key, Pkcs12Store, Pkcs12Written, PhcVerify, PhcString, Pkcs5Decrypt, Pkcs5Encrypt, Pkcs5Scheme, SpkiFingerprint, Identifier}
use Rattle.pkcs5.specs.Reading.{scheme_at}

-- the name of a call
abbrev pub name_of : Call → List ℕ
name_of Aes128Encrypt = codes "aes128-encrypt"
name_of Aes128Decrypt = codes "aes128-decrypt"
name_of Aes192Encrypt = codes "aes192-encrypt"
name_of Aes192Decrypt = codes "aes192-decrypt"
name_of Aes256Encrypt = codes "aes256-encrypt"
name_of Aes256Decrypt = codes "aes256-decrypt"
name_of DesEncrypt = codes "des-encrypt"
name_of DesDecrypt = codes "des-decrypt"
name_of TdesEncrypt = codes "tdes-encrypt"
name_of TdesDecrypt = codes "tdes-decrypt"
name_of CbcAes128Decrypt = codes "cbc-aes128-decrypt"
name_of CbcAes192Decrypt = codes "cbc-aes192-decrypt"
name_of CbcAes256Decrypt = codes "cbc-aes256-decrypt"
name_of CbcDesDecrypt = codes "cbc-des-decrypt"
name_of CbcTdesDecrypt = codes "cbc-tdes-decrypt"
name_of GcmAes128Encrypt = codes "gcm-aes128-encrypt"
name_of GcmAes128Decrypt = codes "gcm-aes128-decrypt"
name_of GcmAes192Encrypt = codes "gcm-aes192-encrypt"
name_of GcmAes192Decrypt = codes "gcm-aes192-decrypt"
name_of GcmAes256Encrypt = codes "gcm-aes256-encrypt"
name_of GcmAes256Decrypt = codes "gcm-aes256-decrypt"
name_of HmacSha1 = codes "hmac-sha1"
name_of HmacSha224 = codes "hmac-sha224"
name_of HmacSha256 = codes "hmac-sha256"
name_of HmacSha384 = codes "hmac-sha384"
name_of HmacSha512 = codes "hmac-sha512"
name_of Pbkdf2Sha1 = codes "pbkdf2-sha1"
name_of Pbkdf2Sha256 = codes "pbkdf2-sha256"
name_of Pbkdf2Sha512 = codes "pbkdf2-sha512"
name_of Scrypt = codes "scrypt"
name_of Pkcs12Key = codes "pkcs12-key"
name_of Pkcs12Store = codes "pkcs12-store"
name_of Pkcs12Written = codes "pkcs12-written"
name_of PhcVerify = codes "phc-verify"
name_of Pkcs5Decrypt = codes "pkcs5-decrypt"
name_of PhcString = codes "phc-string"
name_of Pkcs5Encrypt = codes "pkcs5-encrypt"
name_of Pkcs5Scheme = codes "pkcs5-scheme"
name_of SpkiFingerprint = codes "spki-fingerprint"
name_of Identifier = codes "identifier"

-- the word at place i of a case
abbrev pub word : List (List ℕ) → ℕ → List ℕ
word words i = get_or words i []

-- o is the key of PBKDF2 over the function f, where a result has u octets: password, salt, rounds,
-- length
abbrev pub IsDerived : (List ℕ → List ℕ → List ℕ) → ℕ → List (List ℕ) → List ℕ → Type 0
IsDerived f u words o = (rounds : ℕ) × (uint_of (2 ^ 32 - 1) (word words 2) ≡ Ok rounds)
    × (uint_of 256 (word words 3) ≡ Ok (length o))
    × (o ≡ pbkdf2 (f (word words 0)) u (word words 1) rounds (length o))

-- o is the text whose padded form the ciphertext decrypts to: key, initialization vector,
-- ciphertext
abbrev pub IsOpened : (List ℕ → List ℕ → List ℕ) → ℕ → List (List ℕ) → List ℕ → Type 0
IsOpened inverse size words o =
    padded o size ≡ uncbc (inverse (word words 0)) size (word words 1) (word words 2)

-- o is the ciphertext of the text, and its tag after it: key, nonce, text
abbrev pub IsGcmSealed : (List ℕ → List ℕ → List ℕ) → List (List ℕ) → List ℕ → Type 0
IsGcmSealed cipher words o = o ≡ gcm (cipher (word words 0)) (word words 1) (word words 2)

-- o is the text whose ciphertext, and its tag after it, are given: key, nonce, both
abbrev pub IsGcmOpened : (List ℕ → List ℕ → List ℕ) → List (List ℕ) → List ℕ → Type 0
IsGcmOpened cipher words o = gcm (cipher (word words 0)) (word words 1) o ≡ word words 2

-- words 2 to 4 state the costs of scrypt
abbrev pub Costs : List (List ℕ) → ℕ → ℕ → ℕ → Type 0
Costs words log_n r p = (uint_of 63 (word words 2) ≡ Ok log_n)
    × (uint_of (2 ^ 32 - 1) (word words 3) ≡ Ok r)
    × (uint_of (2 ^ 32 - 1) (word words 4) ≡ Ok p)

-- o is the text of the value that the PHC string t has
abbrev pub IsRewritten : List ℕ → List ℕ → Type 0
IsRewritten t o = (hash : PasswordHash) × Phc t hash × (o ≡ phc_text hash)

-- o is the text of a store that is made of a certificate, its key and further certificates, under a
-- password and a name, and under the octets that are drawn for its salts
pub record IsMade (certificate key password name drawn : List ℕ) (others : List (List ℕ))
    (o : List ℕ) : Type 0 where
  pub store : PFX
  pub salts : Salts
  pub rest : List ℕ
  pub took : drawn ≡ (salts.key ++ (salts.certificates ++ salts.mac)) ++ rest
  pub is : IsStoreOf (bmp_password password) (record {
    certificate = certificate;
    key = key;
    others = others;
    name = name;
  }) store salts
  pub text : o ≡ store_canon store

-- o is the text of the store that the text t has
abbrev pub IsWritten : List ℕ → List ℕ → Type 0
IsWritten t o = (store : PFX) × IsStore t store × (o ≡ store_canon store)

-- o is the fingerprint of the public key that the text t has
pub record IsFingerprint (t o : List ℕ) : Type 0 where
  pub key : AnyPublicKey
  pub is : IsPublicKey t key
  pub digest : o ≡ sha256 (public_key_text key)

-- o is what the call returns at these words
abbrev pub IsAnswer : Call → List (List ℕ) → List ℕ → Type 0
IsAnswer Aes128Encrypt words o = o ≡ aes_128 (word words 0) (word words 1)
IsAnswer Aes128Decrypt words o = o ≡ inv_aes_128 (word words 0) (word words 1)
IsAnswer Aes192Encrypt words o = o ≡ aes_192 (word words 0) (word words 1)
IsAnswer Aes192Decrypt words o = o ≡ inv_aes_192 (word words 0) (word words 1)
IsAnswer Aes256Encrypt words o = o ≡ aes_256 (word words 0) (word words 1)
IsAnswer Aes256Decrypt words o = o ≡ inv_aes_256 (word words 0) (word words 1)
IsAnswer DesEncrypt words o = o ≡ des (word words 0) (word words 1)
IsAnswer DesDecrypt words o = o ≡ inv_des (word words 0) (word words 1)
IsAnswer TdesEncrypt words o = o ≡ tdes (word words 0) (word words 1)
IsAnswer TdesDecrypt words o = o ≡ inv_tdes (word words 0) (word words 1)
IsAnswer CbcAes128Decrypt words o = IsOpened inv_aes_128 16 words o
IsAnswer CbcAes192Decrypt words o = IsOpened inv_aes_192 16 words o
IsAnswer CbcAes256Decrypt words o = IsOpened inv_aes_256 16 words o
IsAnswer CbcDesDecrypt words o = IsOpened inv_des 8 words o
IsAnswer CbcTdesDecrypt words o = IsOpened inv_tdes 8 words o
IsAnswer GcmAes128Encrypt words o = IsGcmSealed aes_128 words o
IsAnswer GcmAes128Decrypt words o = IsGcmOpened aes_128 words o
IsAnswer GcmAes192Encrypt words o = IsGcmSealed aes_192 words o
IsAnswer GcmAes192Decrypt words o = IsGcmOpened aes_192 words o
IsAnswer GcmAes256Encrypt words o = IsGcmSealed aes_256 words o
IsAnswer GcmAes256Decrypt words o = IsGcmOpened aes_256 words o
IsAnswer HmacSha1 words o = o ≡ hmac sha1 64 (word words 0) (word words 1)
IsAnswer HmacSha224 words o = o ≡ hmac sha224 64 (word words 0) (word words 1)
IsAnswer HmacSha256 words o = o ≡ hmac sha256 64 (word words 0) (word words 1)
IsAnswer HmacSha384 words o = o ≡ hmac sha384 128 (word words 0) (word words 1)
IsAnswer HmacSha512 words o = o ≡ hmac sha512 128 (word words 0) (word words 1)
IsAnswer Pbkdf2Sha1 words o = IsDerived (hmac sha1 64) 20 words o
IsAnswer Pbkdf2Sha256 words o = IsDerived (hmac sha256 64) 32 words o
IsAnswer Pbkdf2Sha512 words o = IsDerived (hmac sha512 128) 64 words o
IsAnswer Scrypt words o = (log_n r p : ℕ) × Costs words log_n r p
    × (uint_of 256 (word words 5) ≡ Ok (length o))
    × (o ≡ scrypt (word words 0) (word words 1) (2 ^ log_n) r p (length o))
IsAnswer Pkcs12Key words o = (rounds id size : ℕ)
    × (uint_of (2 ^ 32 - 1) (word words 2) ≡ Ok rounds)
    × (uint_of 255 (word words 3) ≡ Ok id) × (uint_of 1024 (word words 4) ≡ Ok size)
    × (o ≡ derive12 sha1 20 (word words 0) (word words 1) rounds id size)
IsAnswer Pkcs12Store words o =
    IsMade (word words 0) (word words 1) (word words 2) (word words 3) (word words 4)
    (drop 5 words) o
IsAnswer Pkcs12Written words o = IsWritten (word words 0) o
IsAnswer PhcVerify words o = (hash : PasswordHash) × Phc (word words 1) hash
    × Agrees (word words 0) hash × (o ≡ 1 ∷ [])
IsAnswer Pkcs5Decrypt words o = (scheme : EncryptionScheme)
    × (whole scheme_at (word words 0) ≡ Ok scheme)
    × SchemeOpens scheme (word words 1) (word words 2) o
IsAnswer PhcString words o = IsRewritten (word words 0) o
IsAnswer Pkcs5Encrypt words o = (scheme : EncryptionScheme)
    × (whole scheme_at (word words 0) ≡ Ok scheme)
    × SchemeOpens scheme (word words 1) o (word words 2)
IsAnswer Pkcs5Scheme words o = (scheme : EncryptionScheme)
    × (whole scheme_at (word words 0) ≡ Ok scheme)
    × (o ≡ scheme_text scheme)
IsAnswer SpkiFingerprint words o = IsFingerprint (word words 0) o
IsAnswer Identifier words o = IsText (word words 0) o

-- The identifiers and sizes of the algorithms of PBES2 (RFC 8018 appendix B).
use Rattle.std.specs.Prelude.{ℕ, List, Option, Bool, true, false, ⊤}
use Rattle.pkcs5.specs.Identifiers.{pbkdf2_oid, scrypt_oid, hmac_with_sha1_oid, hmac_with_sha224_oid, hmac_with_sha256_oid, hmac_with_sha384_oid, hmac_with_sha512_oid}
use Rattle.pkcs5.specs.Identifiers.{aes_128_cbc_oid, aes_192_cbc_oid, aes_256_cbc_oid, aes_128_gcm_oid, aes_256_gcm_oid, des_ede3_cbc_oid, des_cbc_oid}
use Rattle.pkcs5.specs.declared.pbes2.kdf.Kdf.{Kdf}
use Rattle.pkcs5.specs.declared.pbes2.kdf.Kdf.TheVariants.{Pbkdf2, Scrypt}
use Rattle.pkcs5.specs.declared.pbes2.pbkdf2_prf.Pbkdf2Prf.{Pbkdf2Prf}
use Rattle.pkcs5.specs.declared.pbes2.pbkdf2_prf.Pbkdf2Prf.TheVariants.{HmacWithSha1, HmacWithSha224, HmacWithSha256, HmacWithSha384, HmacWithSha512}
use Rattle.pkcs5.specs.declared.pbes2.encryption_scheme.EncryptionScheme.{EncryptionScheme}
use Rattle.pkcs5.specs.declared.pbes2.encryption_scheme.EncryptionScheme.TheVariants.{Aes128Cbc, Aes192Cbc, Aes256Cbc, Aes128Gcm, Aes256Gcm, DesEde3Cbc, DesCbc}

-- the identifier of a pseudorandom function
abbrev pub prf_oid : Pbkdf2Prf → List ℕ
prf_oid HmacWithSha1 = hmac_with_sha1_oid
prf_oid HmacWithSha224 = hmac_with_sha224_oid
prf_oid HmacWithSha256 = hmac_with_sha256_oid
prf_oid HmacWithSha384 = hmac_with_sha384_oid
prf_oid HmacWithSha512 = hmac_with_sha512_oid

-- the identifier of a key derivation function
abbrev pub kdf_oid : Kdf → List ℕ
kdf_oid (Pbkdf2 p) = pbkdf2_oid
kdf_oid (Scrypt p) = scrypt_oid

-- the length of the derived key in octets, where it is stated
abbrev pub stated_length : Kdf → Option ℕ
stated_length (Pbkdf2 p) = p.key_length
stated_length (Scrypt p) = p.key_length

-- the function is PBKDF2, as a test
abbrev pub is_pbkdf2 : Kdf → Bool
is_pbkdf2 (Pbkdf2 p) = true
is_pbkdf2 (Scrypt p) = false

-- the function is scrypt
abbrev pub IsScrypt : Kdf → Type 0
IsScrypt (Pbkdf2 p) = ⊥
IsScrypt (Scrypt p) = ⊤

-- how many rounds of PBKDF2 derive the key
abbrev pub rounds_of : Kdf → ℕ
rounds_of (Pbkdf2 p) = p.iteration_count
rounds_of (Scrypt p) = 0

-- the identifier of a cipher
abbrev pub cipher_oid : EncryptionScheme → List ℕ
cipher_oid (Aes128Cbc iv) = aes_128_cbc_oid
cipher_oid (Aes192Cbc iv) = aes_192_cbc_oid
cipher_oid (Aes256Cbc iv) = aes_256_cbc_oid
cipher_oid (Aes128Gcm nonce) = aes_128_gcm_oid
cipher_oid (Aes256Gcm nonce) = aes_256_gcm_oid
cipher_oid (DesEde3Cbc iv) = des_ede3_cbc_oid
cipher_oid (DesCbc iv) = des_cbc_oid

-- the length of a cipher's key in octets
abbrev pub key_size : EncryptionScheme → ℕ
key_size (Aes128Cbc iv) = 16
key_size (Aes192Cbc iv) = 24
key_size (Aes256Cbc iv) = 32
key_size (Aes128Gcm nonce) = 16
key_size (Aes256Gcm nonce) = 32
key_size (DesEde3Cbc iv) = 24
key_size (DesCbc iv) = 8

-- its initialization vector, or its nonce
abbrev pub iv_of : EncryptionScheme → List ℕ
iv_of (Aes128Cbc iv) = iv
iv_of (Aes192Cbc iv) = iv
iv_of (Aes256Cbc iv) = iv
iv_of (Aes128Gcm nonce) = nonce
iv_of (Aes256Gcm nonce) = nonce
iv_of (DesEde3Cbc iv) = iv
iv_of (DesCbc iv) = iv

-- and its length in octets
abbrev pub iv_size : EncryptionScheme → ℕ
iv_size (Aes128Cbc iv) = 16
iv_size (Aes192Cbc iv) = 16
iv_size (Aes256Cbc iv) = 16
iv_size (Aes128Gcm nonce) = 12
iv_size (Aes256Gcm nonce) = 12
iv_size (DesEde3Cbc iv) = 8
iv_size (DesCbc iv) = 8

-- the cipher is DES, which opens a text and seals none
abbrev pub IsDes : EncryptionScheme → Type 0
IsDes (Aes128Cbc iv) = ⊥
IsDes (Aes192Cbc iv) = ⊥
IsDes (Aes256Cbc iv) = ⊥
IsDes (Aes128Gcm nonce) = ⊥
IsDes (Aes256Gcm nonce) = ⊥
IsDes (DesEde3Cbc iv) = ⊥
IsDes (DesCbc iv) = ⊤

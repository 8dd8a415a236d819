-- What PBES2 derives from a password, and which text a ciphertext opens to (RFC 8018 sections 5.2
-- and 6.2). Encryption is never defined: a cipher is a permutation under each key, so the
-- ciphertext of a text is the one that opens to it.
use Rattle.std.specs.Prelude.{◌≡◌, ⊤, if◌then◌else◌, ◌&&◌, ℕ, ◌+◌, ◌-◌, ◌*◌, ◌^◌, ◌<◌, ◌%◌, ◌==◌, nat_lt, max, Bool, true, List, length, take, drop, slice_index, Option, Some, None, IfSome}
use Rattle.std.specs.Str.{bytes_eq}
use Rattle.sha1.specs.Sha1.{sha1}
use Rattle.sha2.specs.Sha256.{sha224, sha256}
use Rattle.sha2.specs.Sha512.{sha384, sha512}
use Rattle.block_core.specs.Aes.{aes_128, aes_256, inv_aes_128, inv_aes_192, inv_aes_256}
use Rattle.block_core.specs.Des.{inv_des}
use Rattle.block_core.specs.Tdes.{inv_tdes}
use Rattle.mac_modes.specs.Cbc.{uncbc}
use Rattle.mac_modes.specs.Gcm.{gcm, under_stream}
use Rattle.mac_modes.specs.Hmac.{hmac}
use Rattle.mac_modes.specs.Padding.{pad_count, padded}
use Rattle.pbkdf2.specs.Pbkdf2.{block_count, pbkdf2}
use Rattle.scrypt_core.specs.Params.{Lawful}
use Rattle.scrypt_core.specs.Scrypt.{scrypt}
use Rattle.pkcs5.specs.Kinds.{key_size, rounds_of, stated_length}
use Rattle.pkcs5.specs.declared.pbes2.kdf.Kdf.{Kdf}
use Rattle.pkcs5.specs.declared.pbes2.kdf.Kdf.TheVariants.{Pbkdf2, Scrypt}
use Rattle.pkcs5.specs.declared.pbes2.pbkdf2_prf.Pbkdf2Prf.{Pbkdf2Prf}
use Rattle.pkcs5.specs.declared.pbes2.pbkdf2_prf.Pbkdf2Prf.TheVariants.{HmacWithSha1, HmacWithSha224, HmacWithSha256, HmacWithSha384, HmacWithSha512}
use Rattle.pkcs5.specs.declared.pbes2.encryption_scheme.EncryptionScheme.{EncryptionScheme}
use Rattle.pkcs5.specs.declared.pbes2.encryption_scheme.EncryptionScheme.TheVariants.{Aes128Cbc, Aes192Cbc, Aes256Cbc, Aes128Gcm, Aes256Gcm, DesEde3Cbc, DesCbc}
use Rattle.pkcs5.specs.declared.pbes2.parameters.Parameters.{Parameters}

-- ---- the key (RFC 8018 section 5.2 and appendix B.1, RFC 7914 section 6)

-- the pseudorandom function under a password: HMAC over its hash, whose blocks have 64 or 128
-- octets
unfoldable pub prf_of : Pbkdf2Prf → List ℕ → List ℕ → List ℕ
prf_of HmacWithSha1 q = hmac sha1 64 q
prf_of HmacWithSha224 q = hmac sha224 64 q
prf_of HmacWithSha256 q = hmac sha256 64 q
prf_of HmacWithSha384 q = hmac sha384 128 q
prf_of HmacWithSha512 q = hmac sha512 128 q

-- how many octets it returns
abbrev pub prf_output : Pbkdf2Prf → ℕ
prf_output HmacWithSha1 = 20
prf_output HmacWithSha224 = 28
prf_output HmacWithSha256 = 32
prf_output HmacWithSha384 = 48
prf_output HmacWithSha512 = 64

-- the key of n octets that is derived from the password q
unfoldable pub derived : Kdf → List ℕ → ℕ → List ℕ
derived (Pbkdf2 p) q n = pbkdf2 (prf_of p.prf q) (prf_output p.prf) p.salt p.iteration_count n
derived (Scrypt p) q n = scrypt q p.salt p.cost_parameter p.block_size p.parallelization n

-- the key of 32 octets that PBKDF2 over HMAC-SHA-256 derives from the password q
abbrev pub sha256_key : ℕ → List ℕ → List ℕ → List ℕ
sha256_key rounds q salt = pbkdf2 (hmac sha256 64 q) 32 salt rounds 32

-- scrypt takes the costs: the first is a power of two, and they are within the bounds
abbrev pub TakesCosts : Kdf → Type 0
TakesCosts (Pbkdf2 p) = ⊤
TakesCosts (Scrypt p) = (log_n : ℕ) × (p.cost_parameter ≡ 2 ^ log_n)
    × Lawful log_n p.block_size p.parallelization

-- where a length of the key is stated, it is n
abbrev pub StatesLength : Kdf → ℕ → Type 0
StatesLength kdf n = IfSome (stated_length kdf) (λ stated. stated ≡ n)

-- the same, as a test
abbrev pub states_length : Kdf → ℕ → Bool
states_length kdf n = elim (stated_length kdf) [ None ↦ true | Some stated ↦ stated == n ]

-- the outputs of the pseudorandom function of PBKDF2 that a round of n octets of key takes
abbrev pub answers_of : Kdf → ℕ → ℕ
answers_of (Pbkdf2 p) n = block_count n (prf_output p.prf)
answers_of (Scrypt p) n = 0

-- the function gives a key of n octets: a length that is stated is n, and scrypt takes its costs
abbrev pub GivesKey : Kdf → ℕ → Type 0
GivesKey kdf n = StatesLength kdf n × TakesCosts kdf

-- the steps of deriving n octets of key: those results in each round, and 0 rounds are one
abbrev pub key_steps : Kdf → ℕ → ℕ
key_steps kdf n = max (rounds_of kdf) 1 * answers_of kdf n

-- ---- the cipher (RFC 8018 section 6.2 and appendix B.2, RFC 5084 section 3.2)

-- whole blocks of n octets, and at least one
pub record IsBlocks (n : ℕ) (c : List ℕ) : Type 0 where
  pub some : 0 < length c
  pub whole : length c % n ≡ 0

-- CBC: a ciphertext, and the text that it decrypts to with its padding, where D is the inverse of
-- the cipher on blocks of n octets
pub record Decrypts (n : ℕ) (D : List ℕ → List ℕ) (iv c m : List ℕ) : Type 0 where
  pub blocks : IsBlocks n c
  pub text : uncbc D n iv c ≡ padded m n

-- GCM: a ciphertext with its tag of 16 octets, and the text that is sealed so, where E is the
-- cipher
pub record Unseals (E : List ℕ → List ℕ) (nonce c m : List ℕ) : Type 0 where
  pub long : length c ≡ length m + 16
  pub text : gcm E nonce m ≡ c

-- the ciphertext c opens to the text m under a key
unfoldable pub OpensBy : EncryptionScheme → List ℕ → List ℕ → List ℕ → Type 0
OpensBy (Aes128Cbc iv) key c m = Decrypts 16 (inv_aes_128 key) iv c m
OpensBy (Aes192Cbc iv) key c m = Decrypts 16 (inv_aes_192 key) iv c m
OpensBy (Aes256Cbc iv) key c m = Decrypts 16 (inv_aes_256 key) iv c m
OpensBy (Aes128Gcm nonce) key c m = Unseals (aes_128 key) nonce c m
OpensBy (Aes256Gcm nonce) key c m = Unseals (aes_256 key) nonce c m
OpensBy (DesEde3Cbc iv) key c m = Decrypts 8 (inv_tdes key) iv c m
OpensBy (DesCbc iv) key c m = Decrypts 8 (inv_des key) iv c m

-- what a buffer holds of a ciphertext that opens to no text: in CBC its decrypted blocks, where it
-- is whole blocks
abbrev pub LeftBlocks : ℕ → (List ℕ → List ℕ) → List ℕ → List ℕ → List ℕ → Type 0
LeftBlocks n D iv before now = (IsBlocks n before → now ≡ uncbc D n iv before)
    × (¬ IsBlocks n before → now ≡ before)

-- by the cipher; in GCM the buffer is left as it was
unfoldable pub LeftBy : EncryptionScheme → List ℕ → List ℕ → List ℕ → Type 0
LeftBy (Aes128Cbc iv) key before now = LeftBlocks 16 (inv_aes_128 key) iv before now
LeftBy (Aes192Cbc iv) key before now = LeftBlocks 16 (inv_aes_192 key) iv before now
LeftBy (Aes256Cbc iv) key before now = LeftBlocks 16 (inv_aes_256 key) iv before now
LeftBy (Aes128Gcm nonce) key before now = now ≡ before
LeftBy (Aes256Gcm nonce) key before now = now ≡ before
LeftBy (DesEde3Cbc iv) key before now = LeftBlocks 8 (inv_tdes key) iv before now
LeftBy (DesCbc iv) key before now = LeftBlocks 8 (inv_des key) iv before now

-- what comes after len octets of text in a buffer where they were decrypted: the padding in CBC,
-- and in GCM the tag
unfoldable pub IsBehind : EncryptionScheme → List ℕ → List ℕ → ℕ → Type 0
IsBehind (Aes128Cbc iv) before now len = now ≡ padded (take len now) 16
IsBehind (Aes192Cbc iv) before now len = now ≡ padded (take len now) 16
IsBehind (Aes256Cbc iv) before now len = now ≡ padded (take len now) 16
IsBehind (Aes128Gcm nonce) before now len = drop len now ≡ drop len before
IsBehind (Aes256Gcm nonce) before now len = drop len now ≡ drop len before
IsBehind (DesEde3Cbc iv) before now len = now ≡ padded (take len now) 8
IsBehind (DesCbc iv) before now len = now ≡ padded (take len now) 8

-- the length of the ciphertext of n octets of text: in CBC the next greater multiple of a block,
-- and in GCM 16 octets more
abbrev pub ciphertext_size : EncryptionScheme → ℕ → ℕ
ciphertext_size (Aes128Cbc iv) n = n + pad_count 16 n
ciphertext_size (Aes192Cbc iv) n = n + pad_count 16 n
ciphertext_size (Aes256Cbc iv) n = n + pad_count 16 n
ciphertext_size (Aes128Gcm nonce) n = n + 16
ciphertext_size (Aes256Gcm nonce) n = n + 16
ciphertext_size (DesEde3Cbc iv) n = n + pad_count 8 n
ciphertext_size (DesCbc iv) n = n + pad_count 8 n

-- ---- the scheme

-- the function gives a key for the cipher
abbrev pub FitsKey : Parameters → Type 0
FitsKey par = GivesKey par.kdf (key_size par.encryption)

-- the outputs of the pseudorandom function that a round takes
abbrev pub steps_of : Parameters → ℕ
steps_of par = answers_of par.kdf (key_size par.encryption)

-- the steps of an opening
abbrev pub opening_steps : Parameters → ℕ
opening_steps par = key_steps par.kdf (key_size par.encryption)

-- the key that is derived for the cipher from the password q
unfoldable pub key_under : Parameters → List ℕ → List ℕ
key_under par q = derived par.kdf q (key_size par.encryption)

-- the ciphertext c opens to the text m under the password q
abbrev pub Opens : Parameters → List ℕ → List ℕ → List ℕ → Type 0
Opens par q c m = OpensBy par.encryption (key_under par q) c m

-- ---- the same as a function

-- a text with its padding to blocks of n octets, without it: it ends where the last octet says
unfoldable pub unpadded : ℕ → List ℕ → Option (List ℕ)
unpadded n t =
    let m = take (length t - slice_index t (length t - 1)) t in
    if bytes_eq (padded m n) t then Some m else None

-- what a ciphertext opens to in CBC, and in GCM
unfoldable pub decrypted : ℕ → (List ℕ → List ℕ) → List ℕ → List ℕ → Option (List ℕ)
decrypted n D iv c = if nat_lt 0 (length c) && (length c % n == 0) then unpadded n (uncbc D n iv c)
    else None

unfoldable pub unsealed : (List ℕ → List ℕ) → List ℕ → List ℕ → Option (List ℕ)
unsealed E nonce c =
    let m = under_stream E nonce (take (length c - 16) c) in
    if (length c == length m + 16) && bytes_eq (gcm E nonce m) c then Some m else None

unfoldable pub opened_by : EncryptionScheme → List ℕ → List ℕ → Option (List ℕ)
opened_by (Aes128Cbc iv) key c = decrypted 16 (inv_aes_128 key) iv c
opened_by (Aes192Cbc iv) key c = decrypted 16 (inv_aes_192 key) iv c
opened_by (Aes256Cbc iv) key c = decrypted 16 (inv_aes_256 key) iv c
opened_by (Aes128Gcm nonce) key c = unsealed (aes_128 key) nonce c
opened_by (Aes256Gcm nonce) key c = unsealed (aes_256 key) nonce c
opened_by (DesEde3Cbc iv) key c = decrypted 8 (inv_tdes key) iv c
opened_by (DesCbc iv) key c = decrypted 8 (inv_des key) iv c

-- the text that a ciphertext opens to under the password q, or none
abbrev pub opened : Parameters → List ℕ → List ℕ → Option (List ℕ)
opened par q c = opened_by par.encryption (key_under par q) c

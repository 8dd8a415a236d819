-- Under a key of octets a ciphertext is the only one that opens to its text.
use Rattle.std.proofs.Common.{◌≡◌, ◌∙◌, sym, ℕ, ◌%◌, ◌<◌, List, length, take, drop, reverse}
use Rattle.std.specs.Prelude.{All}
use Rattle.block_core.specs.AesKey.{AreOctets, expand}
use Rattle.block_core.specs.AesLaws.{aes_laws}
use Rattle.block_core.specs.AesRounds.{decrypt_with, encrypt_with}
use Rattle.block_core.specs.Des.{round_keys, under_keys}
use Rattle.block_core.specs.DesLaws.{des_laws}
use Rattle.block_core.specs.Tdes.{inv_tdes, under_three, back_under_three}
use Rattle.block_core.specs.TdesLaws.{tdes_laws}
use Rattle.mac_modes.specs.Cbc.{uncbc}
use Rattle.mac_modes.proofs.Uniqueness.{one_ciphertext}
use Rattle.pkcs5.proofs.Octets.{Bytes, bytes_at, bytes_expand}
use Rattle.pkcs5.specs.Kinds.{iv_of, iv_size}
use Rattle.pkcs5.specs.Opening.{OpensBy}
use Rattle.pkcs5.specs.declared.pbes2.encryption_scheme.EncryptionScheme.{EncryptionScheme}
use Rattle.pkcs5.specs.declared.pbes2.encryption_scheme.EncryptionScheme.TheVariants.{Aes128Cbc, Aes192Cbc, Aes256Cbc, Aes128Gcm, Aes256Gcm, DesEde3Cbc, DesCbc}

-- whole blocks of n octets that D decrypts to the same are the same
abbrev IsUnique : ℕ → (List ℕ → List ℕ) → Type 0
IsUnique n D = (iv x y : List ℕ) → length iv ≡ n → All (λ octet. octet < 256) x → length x % n ≡ 0 → All (λ octet. octet < 256) y → length y % n ≡ 0
    → uncbc D n iv x ≡ uncbc D n iv y → x ≡ y

-- expanded keys of octets
record Keys : Type 0 where
  keys : List ℕ
  octets : AreOctets keys

aes_unique : (n : ℕ) (keys : List ℕ) → AreOctets keys → IsUnique 16 (decrypt_with keys n)
aes_unique n keys octets iv x y long hx wx hy wy e =
    one_ciphertext Keys 16 (λ s. encrypt_with s.keys n) (λ s. decrypt_with s.keys n) (aes_laws n Keys (λ s. s.keys) (λ s. s.octets)) (record { keys = keys; octets = octets }) iv long x y hx wx hy wy e

des_unique : (keys : List (List ℕ)) → IsUnique 8 (under_keys (reverse keys))
des_unique keys iv x y long hx wx hy wy e =
    one_ciphertext (List (List ℕ)) 8 (λ s. under_keys s) (λ s. under_keys (reverse s)) (des_laws (List (List ℕ)) (λ s. s)) keys iv long x y hx wx hy wy e

-- the round keys of three keys
record Three : Type 0 where
  first : List (List ℕ)
  second : List (List ℕ)
  third : List (List ℕ)

three_unique : (s : Three) → IsUnique 8 (back_under_three s.first s.second s.third)
three_unique s iv x y long hx wx hy wy e =
    one_ciphertext Three 8 (λ s. under_three s.first s.second s.third) (λ s. back_under_three s.first s.second s.third) (tdes_laws Three (λ s. s.first) (λ s. s.second) (λ s. s.third)) s iv long x y hx wx hy wy e

tdes_unique : (key : List ℕ) → IsUnique 8 (inv_tdes key)
unfolding inv_tdes back_under_three
tdes_unique key iv x y long hx wx hy wy e =
    three_unique (record { first = round_keys (take 8 key); second = round_keys (take 8 (drop 8 key)); third = round_keys (take 8 (drop 16 key)) }) iv x y long hx wx hy wy e

pub is_unique : (e : EncryptionScheme) (key x y m : List ℕ) → Bytes key → length (iv_of e) ≡ iv_size e → All (λ octet. octet < 256) x → All (λ octet. octet < 256) y
    → OpensBy e key x m → OpensBy e key y m → x ≡ y
unfolding OpensBy
is_unique (Aes128Cbc iv) key x y m h long hx hy a b = aes_unique 9 (expand 4 key 40) (bytes_at (expand 4 key 40) (bytes_expand 4 key 40 h)) iv x y long hx a.blocks.whole hy b.blocks.whole (a.text ∙ sym b.text)
is_unique (Aes192Cbc iv) key x y m h long hx hy a b = aes_unique 11 (expand 6 key 46) (bytes_at (expand 6 key 46) (bytes_expand 6 key 46 h)) iv x y long hx a.blocks.whole hy b.blocks.whole (a.text ∙ sym b.text)
is_unique (Aes256Cbc iv) key x y m h long hx hy a b = aes_unique 13 (expand 8 key 52) (bytes_at (expand 8 key 52) (bytes_expand 8 key 52 h)) iv x y long hx a.blocks.whole hy b.blocks.whole (a.text ∙ sym b.text)
is_unique (Aes128Gcm nonce) key x y m h long hx hy a b = sym a.text ∙ b.text
is_unique (Aes256Gcm nonce) key x y m h long hx hy a b = sym a.text ∙ b.text
is_unique (DesEde3Cbc iv) key x y m h long hx hy a b = tdes_unique key iv x y long hx a.blocks.whole hy b.blocks.whole (a.text ∙ sym b.text)
is_unique (DesCbc iv) key x y m h long hx hy a b = des_unique (round_keys key) iv x y long hx a.blocks.whole hy b.blocks.whole (a.text ∙ sym b.text)

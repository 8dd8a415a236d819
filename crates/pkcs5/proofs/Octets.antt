-- Digests, derived keys and expanded keys are lists of octets.
use Rattle.std.proofs.Common.{ℕ, zero, suc, ◌+◌, ◌-◌, ◌*◌, ◌/◌, ◌%◌, ◌<◌, ◌==◌, ◌&&◌, Bool, true, false, List, [], ◌∷◌, ◌++◌, take, cond, bit_xor, arith, lit<}
use Rattle.std.specs.Prelude.{slice_index, max}
use Rattle.std.specs.Int.{bytes_high_first}
use Rattle.std.proofs.lemmas.Nat.{xor_lt}
use Rattle.sha1.specs.Sha1 as one
use Rattle.sha2.specs.Sha256 as short
use Rattle.sha2.specs.Sha512 as long
use Rattle.block_core.specs.Bits.{xor_each}
use Rattle.block_core.specs.AesKey.{AreOctets, expand, next_word, scheduled, sub_word, turned_word, word_at, xor_words}
use Rattle.block_core.specs.Field.{power_of_x, times_x}
use Rattle.block_core.specs.FieldLaws.{times_x_code}
use Rattle.block_core.specs.Sbox.{affine_bit, from_bits, sub_byte}
use Rattle.mac_modes.specs.Hmac.{hmac}
use Rattle.pbkdf2.specs.Pbkdf2.{block, block_count, blocks, chained, pbkdf2, xor_through}
use Rattle.scrypt_core.specs.Scrypt.{scrypt}
use Rattle.sha2.specs.Sha256.{sha256}
use Rattle.pkcs5.specs.Opening.{derived, prf_of}
use Rattle.pkcs5.specs.declared.pbes2.kdf.Kdf.{Kdf}
use Rattle.pkcs5.specs.declared.pbes2.kdf.Kdf.TheVariants.{Pbkdf2, Scrypt}
use Rattle.pkcs5.specs.declared.pbes2.pbkdf2_prf.Pbkdf2Prf.{Pbkdf2Prf}
use Rattle.pkcs5.specs.declared.pbes2.pbkdf2_prf.Pbkdf2Prf.TheVariants.{HmacWithSha1, HmacWithSha224, HmacWithSha256, HmacWithSha384, HmacWithSha512}

-- each number is an octet
abbrev pub Bytes : List ℕ → Type 0
Bytes [] = Unit {0}
Bytes (x ∷ xs) = (x < 256) × Bytes xs

pub bytes_at : (xs : List ℕ) → Bytes xs → AreOctets xs
bytes_at [] h i = lit< tt
bytes_at (x ∷ xs) h zero = h.0
bytes_at (x ∷ xs) h (suc i) = bytes_at xs h.1 i

bytes_append : (xs ys : List ℕ) → Bytes xs → Bytes ys → Bytes (xs ++ ys)
bytes_append [] ys h k = k
bytes_append (x ∷ xs) ys h k = (h.0, bytes_append xs ys h.1 k)

bytes_take : (n : ℕ) (xs : List ℕ) → Bytes xs → Bytes (take n xs)
bytes_take zero xs h = tt
bytes_take (suc n) [] h = tt
bytes_take (suc n) (x ∷ xs) h = (h.0, bytes_take n xs h.1)

bytes_xor : (xs ys : List ℕ) → Bytes xs → Bytes ys → Bytes (xor_each xs ys)
unfolding xor_each
bytes_xor [] ys h k = tt
bytes_xor (x ∷ xs) [] h k = tt
bytes_xor (x ∷ xs) (y ∷ ys) h k = (xor_lt 8 x y h.0 k.0, bytes_xor xs ys h.1 k.1)

bytes_four : (a b c d : ℕ) → a < 256 → b < 256 → c < 256 → d < 256 → Bytes (a ∷ b ∷ c ∷ d ∷ [])
bytes_four a b c d ha hb hc hd = (ha, (hb, (hc, (hd, tt))))

-- ---- digests

byte_lt : (m : ℕ) → m % 256 < 256
byte_lt m = omega arith

bytes_of_number : (k n : ℕ) → Bytes (bytes_high_first k n)
bytes_of_number zero n = tt
bytes_of_number (suc zero) n = (byte_lt n, tt)
bytes_of_number (suc (suc k)) n = (byte_lt _, bytes_of_number (suc k) n)

bytes_digest_1 : (h : List ℕ) (n : ℕ) → Bytes (one.digest_bytes h n)
unfolding one.digest_bytes
bytes_digest_1 h zero = tt
bytes_digest_1 h (suc n) = bytes_append (one.digest_bytes h n) _ (bytes_digest_1 h n) (bytes_of_number 4 (slice_index h n))

bytes_digest_256 : (h : List ℕ) (n : ℕ) → Bytes (short.digest_bytes h n)
unfolding short.digest_bytes
bytes_digest_256 h zero = tt
bytes_digest_256 h (suc n) = bytes_append (short.digest_bytes h n) _ (bytes_digest_256 h n) (bytes_of_number 4 (slice_index h n))

bytes_digest_512 : (h : List ℕ) (n : ℕ) → Bytes (long.digest_bytes h n)
unfolding long.digest_bytes
bytes_digest_512 h zero = tt
bytes_digest_512 h (suc n) = bytes_append (long.digest_bytes h n) _ (bytes_digest_512 h n) (bytes_of_number 8 (slice_index h n))

bytes_sha1 : (m : List ℕ) → Bytes (one.sha1 m)
unfolding one.sha1
bytes_sha1 m = bytes_digest_1 _ 5

bytes_sha224 : (m : List ℕ) → Bytes (short.sha224 m)
unfolding short.sha224
bytes_sha224 m = bytes_take 28 _ (bytes_digest_256 _ 8)

bytes_sha256 : (m : List ℕ) → Bytes (short.sha256 m)
unfolding short.sha256
bytes_sha256 m = bytes_digest_256 _ 8

bytes_sha384 : (m : List ℕ) → Bytes (long.sha384 m)
unfolding long.sha384
bytes_sha384 m = bytes_take 48 _ (bytes_digest_512 _ 8)

bytes_sha512 : (m : List ℕ) → Bytes (long.sha512 m)
unfolding long.sha512
bytes_sha512 m = bytes_digest_512 _ 8

bytes_prf : (f : Pbkdf2Prf) (q t : List ℕ) → Bytes (prf_of f q t)
unfolding prf_of hmac
bytes_prf HmacWithSha1 q t = bytes_sha1 _
bytes_prf HmacWithSha224 q t = bytes_sha224 _
bytes_prf HmacWithSha256 q t = bytes_sha256 _
bytes_prf HmacWithSha384 q t = bytes_sha384 _
bytes_prf HmacWithSha512 q t = bytes_sha512 _

-- ---- derived keys

module _ (f : List ℕ → List ℕ) (answers : (t : List ℕ) → Bytes (f t)) where
  bytes_chained : (first : List ℕ) → Bytes first → (j : ℕ) → Bytes (chained f first j)
  unfolding chained
  bytes_chained first h zero = h
  bytes_chained first h (suc j) = answers (chained f first j)

  bytes_through : (first : List ℕ) → Bytes first → (j : ℕ) → Bytes (xor_through f first j)
  unfolding xor_through
  bytes_through first h zero = h
  bytes_through first h (suc j) = bytes_xor (xor_through f first j) (chained f first (suc j)) (bytes_through first h j) (bytes_chained first h (suc j))

  bytes_blocks : (salt : List ℕ) (r n : ℕ) → Bytes (blocks f salt r n)
  unfolding blocks
  bytes_blocks salt r zero = tt
  bytes_blocks salt r (suc n) = bytes_append (blocks f salt r n) (block f salt r (suc n)) (bytes_blocks salt r n) (bytes_through _ (answers _) (max r 1 - 1))

  bytes_pbkdf2 : (u : ℕ) (salt : List ℕ) (r n : ℕ) → Bytes (pbkdf2 f u salt r n)
  unfolding pbkdf2
  bytes_pbkdf2 u salt r n = bytes_take n _ (bytes_blocks salt r (block_count n u))

bytes_hmac_sha256 : (q t : List ℕ) → Bytes (hmac sha256 64 q t)
unfolding hmac
bytes_hmac_sha256 q t = bytes_sha256 _

pub bytes_derived : (kdf : Kdf) (q : List ℕ) (n : ℕ) → Bytes (derived kdf q n)
unfolding derived scrypt
bytes_derived (Pbkdf2 p) q n = bytes_pbkdf2 (prf_of p.prf q) (bytes_prf p.prf q) _ p.salt p.iteration_count n
bytes_derived (Scrypt p) q n = bytes_pbkdf2 (hmac sha256 64 q) (λ t. bytes_hmac_sha256 q t) 32 _ 1 n

-- ---- expanded keys

from_bits_lt : (f : ℕ → ℕ) → ((i : ℕ) → f i < 2) → from_bits 8 f < 256
unfolding from_bits
from_bits_lt f h = omega (arith, h 0, h 1, h 2, h 3, h 4, h 5, h 6, h 7)

bit_lt : (n : ℕ) → n % 2 < 2
bit_lt n = omega arith

sub_byte_lt : (a : ℕ) → sub_byte a < 256
unfolding sub_byte affine_bit
sub_byte_lt a = from_bits_lt _ (λ i. bit_lt _)

times_x_lt : (a : ℕ) → a < 256 → times_x a < 256
times_x_lt a h =
    let both : bit_xor (a * 2 % 256) (a / 128 * 27) < 256 = xor_lt 8 (a * 2 % 256) (a / 128 * 27) (omega arith) (omega arith) in
    omega (arith, both, times_x_code a h)

power_lt : (n : ℕ) → power_of_x n < 256
unfolding power_of_x
power_lt zero = lit< tt
power_lt (suc n) = times_x_lt (power_of_x n) (power_lt n)

bytes_cond : (b : Bool) (xs ys : List ℕ) → Bytes xs → Bytes ys → Bytes (cond b xs ys)
bytes_cond true xs ys h k = h
bytes_cond false xs ys h k = k

bytes_scheduled : (words : ℕ) (constant : ℕ) (w : List ℕ) (i : ℕ) → constant < 256 → AreOctets w → Bytes (scheduled words constant w i)
unfolding scheduled
bytes_scheduled words constant w i small h =
    let p : ℕ = 4 * (i - 1) in
    bytes_cond (i % words == 0) (turned_word constant w p) _
    (bytes_four _ _ _ _ (xor_lt 8 (sub_byte (slice_index w (p + 1))) constant (sub_byte_lt (slice_index w (p + 1))) small) (sub_byte_lt _) (sub_byte_lt _) (sub_byte_lt _))
    (bytes_cond ((words == 8) && (i % words == 4)) (sub_word w p) (word_at w p)
    (bytes_four _ _ _ _ (sub_byte_lt _) (sub_byte_lt _) (sub_byte_lt _) (sub_byte_lt _))
    (bytes_four _ _ _ _ (h p) (h (p + 1)) (h (p + 2)) (h (p + 3))))

bytes_words : (u v : List ℕ) → AreOctets u → AreOctets v → Bytes (xor_words u v)
bytes_words u v h k =
    let x : (i : ℕ) → bit_xor (slice_index u i) (slice_index v i) < 256 = λ i. xor_lt 8 (slice_index u i) (slice_index v i) (h i) (k i) in
    bytes_four _ _ _ _ (x 0) (x 1) (x 2) (x 3)

bytes_next : (words : ℕ) (w : List ℕ) (i : ℕ) → AreOctets w → Bytes (next_word words w i)
unfolding next_word
bytes_next words w i h =
    let p : ℕ = 4 * (i - words) in
    bytes_words (word_at w p) (scheduled words (power_of_x (i / words - 1)) w i)
    (bytes_at (word_at w p) (bytes_four _ _ _ _ (h p) (h (p + 1)) (h (p + 2)) (h (p + 3))))
    (bytes_at (scheduled words (power_of_x (i / words - 1)) w i) (bytes_scheduled words (power_of_x (i / words - 1)) w i (power_lt (i / words - 1)) h))

pub bytes_expand : (words : ℕ) (key : List ℕ) (n : ℕ) → Bytes key → Bytes (expand words key n)
unfolding expand
bytes_expand words key zero h = h
bytes_expand words key (suc n) h =
    let before : Bytes (expand words key n) = bytes_expand words key n h in
    bytes_append (expand words key n) (next_word words (expand words key n) (words + n)) before (bytes_next words (expand words key n) (words + n) (bytes_at (expand words key n) before))

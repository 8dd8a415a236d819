-- A message of 96 octets is two blocks, and its second block has the words of a hash value.
use Rattle.std.proofs.Common.{w32, ◌≡◌, ℕ, zero, suc, ◌*◌, ◌/◌, ◌%◌, ◌^◌, ◌<◌, List, [], ◌∷◌, ◌++◌, length, take, drop, slice_index, slice_index_or, bit_xor, refl, sym, ap, ap₂, ◌∙◌, arith}
use Rattle.std.proofs.lemmas.List.{append_assoc, drop_at, length-append, take_at, take_all}
use Rattle.std.proofs.lemmas.Nat.{from_be_bytes-to_be_bytes_4, xor_mod, xor_shr}
use Rattle.std.specs.Int.{to_be_bytes}
use Rattle.block_core.specs.Bits.{xor_each}
use Rattle.sha2.specs.Sha256.{compress, digest_bytes, hash_after, initial_hash_256, padded_message, padding, sha256, word_at}
use Rattle.sha2_lanes.proofs.LaneLemmas.{below_eight, below_sixteen, slice_index-lane, splat_at}
use Rattle.sha2_lanes.specs.Lanes.{AreWordsOf, IsAfter, lane, octets}

pub length-octets : (u : List ℕ) → length (octets u) ≡ 32
unfolding digest_bytes
length-octets u = refl

-- a message of a block and 32 octets is two compressions
two_blocks : (b d : List ℕ) → length b ≡ 64 → length d ≡ 32
    → sha256 (b ++ d) ≡ octets (compress (compress initial_hash_256 b) (d ++ padding 96))
unfolding sha256 hash_after
two_blocks b d lb ld =
    let m = b ++ d in
    let lm : length m ≡ 96 = omega (arith, length-append b d) in
    let tail = d ++ padding 96 in
    let lp : length (padding 96) ≡ 32 = refl in
    let lt : length tail ≡ 64 = omega (arith, length-append d (padding 96)) in
    let p : padded_message m ≡ b ++ tail = rw lm (append_assoc b d (padding 96)) in
    let n : length (b ++ tail) / 64 ≡ 2 = omega (arith, length-append b tail) in
    let first : take 64 (b ++ tail) ≡ b = take_at b tail 64 lb in
    let second : take 64 (drop 64 (b ++ tail)) ≡ tail = ap (take 64) (drop_at b tail 64 lb) ∙ take_all 64 tail (omega arith) in
    rw (p, n) (ap octets (ap₂ compress (ap (compress initial_hash_256) first) second))

-- the octets of the hash value of a message, from that after its first block and the other 32 octets
pub finished : (state block u last : List ℕ) → IsAfter state block → last ≡ compress state (octets u ++ padding 96)
    → octets last ≡ sha256 (block ++ octets u)
finished state block u last after e =
    ap octets (e ∙ ap (λ h. compress h (octets u ++ padding 96)) after.1)
    ∙ sym (two_blocks block (octets u) after.0 (length-octets u))

-- ---- words and octets

byte-xor : (a b k : ℕ) → bit_xor a b / 2 ^ k % 2 ^ 8 ≡ bit_xor (a / 2 ^ k % 2 ^ 8) (b / 2 ^ k % 2 ^ 8)
byte-xor a b k = rw (xor_shr a b k) (xor_mod (a / 2 ^ k) (b / 2 ^ k) 8)

word-xor : (a b : ℕ) {rest out : List ℕ} → rest ≡ out
    → to_be_bytes w32 (bit_xor a b) ++ rest ≡ xor_each (to_be_bytes w32 a) (to_be_bytes w32 b) ++ out
unfolding xor_each
word-xor a b e =
    rw (← byte-xor a b 24, ← byte-xor a b 16, ← byte-xor a b 8, ← xor_mod a b 8, e) refl

module _ (s u v : List ℕ) (h : (k : ℕ) → k < 8 → slice_index s k ≡ bit_xor (slice_index u k) (slice_index v k)) where
  next-xor : (k : ℕ) → k < 8 → {rest out : List ℕ} → rest ≡ out
      → to_be_bytes w32 (slice_index s k) ++ rest ≡ xor_each (to_be_bytes w32 (slice_index u k)) (to_be_bytes w32 (slice_index v k)) ++ out
  next-xor k lt {rest} e = ap (λ x. to_be_bytes w32 x ++ rest) (h k lt) ∙ word-xor (slice_index u k) (slice_index v k) e

  -- the xor of hash values, word by word, is that of their octets
  pub octets-xor : octets s ≡ xor_each (octets u) (octets v)
  unfolding digest_bytes xor_each
  octets-xor =
      next-xor 0 (omega arith) (next-xor 1 (omega arith) (next-xor 2 (omega arith) (next-xor 3 (omega arith)
      (next-xor 4 (omega arith) (next-xor 5 (omega arith) (next-xor 6 (omega arith) (next-xor 7 (omega arith) {rest = []} {out = []} refl)))))))

-- word k of a block that begins with the octets of a hash value
pub word-octets : (u rest : List ℕ) → ((k : ℕ) → k < 8 → slice_index u k < 2 ^ 32)
    → (k : ℕ) → k < 8 → word_at (octets u ++ rest) (4 * k) ≡ slice_index u k
unfolding digest_bytes
word-octets u rest fits zero lt = from_be_bytes-to_be_bytes_4 (slice_index u 0) (fits 0 lt)
word-octets u rest fits (suc zero) lt = from_be_bytes-to_be_bytes_4 (slice_index u 1) (fits 1 lt)
word-octets u rest fits (suc (suc zero)) lt = from_be_bytes-to_be_bytes_4 (slice_index u 2) (fits 2 lt)
word-octets u rest fits (suc (suc (suc zero))) lt = from_be_bytes-to_be_bytes_4 (slice_index u 3) (fits 3 lt)
word-octets u rest fits (suc (suc (suc (suc zero)))) lt = from_be_bytes-to_be_bytes_4 (slice_index u 4) (fits 4 lt)
word-octets u rest fits (suc (suc (suc (suc (suc zero))))) lt = from_be_bytes-to_be_bytes_4 (slice_index u 5) (fits 5 lt)
word-octets u rest fits (suc (suc (suc (suc (suc (suc zero)))))) lt = from_be_bytes-to_be_bytes_4 (slice_index u 6) (fits 6 lt)
word-octets u rest fits (suc (suc (suc (suc (suc (suc (suc zero))))))) lt = from_be_bytes-to_be_bytes_4 (slice_index u 7) (fits 7 lt)
word-octets u rest fits (suc (suc (suc (suc (suc (suc (suc (suc k)))))))) lt = absurd (omega arith)

-- the words of the block of 32 octets that end a message of 96
abbrev pub last_words : List ℕ → List ℕ
last_words u =
    slice_index u 0 ∷ slice_index u 1 ∷ slice_index u 2 ∷ slice_index u 3 ∷ slice_index u 4 ∷ slice_index u 5 ∷ slice_index u 6 ∷ slice_index u 7
    ∷ 0x80000000 ∷ 0 ∷ 0 ∷ 0 ∷ 0 ∷ 0 ∷ 0 ∷ 768 ∷ []

pub are_last_words : (u w : List ℕ) → ((k : ℕ) → k < 8 → slice_index u k < 2 ^ 32) → w ≡ last_words u → AreWordsOf w (octets u ++ padding 96)
unfolding digest_bytes
are_last_words u w fits e =
    let front = below_eight (λ k. slice_index (last_words u) k ≡ slice_index u k) refl refl refl refl refl refl refl refl in
    rw e (below_sixteen (λ k. slice_index (last_words u) k ≡ word_at (octets u ++ padding 96) (4 * k))
    (λ k lt. front k lt ∙ sym (word-octets u (padding 96) fits k lt)) refl refl refl refl refl refl refl refl)

-- a lane of these words as vectors
pub lane_of_last : (x : List (List ℕ)) (j : ℕ) → j < 4
    → lane j (slice_index_or x 0 [] ∷ slice_index_or x 1 [] ∷ slice_index_or x 2 [] ∷ slice_index_or x 3 [] ∷ slice_index_or x 4 [] ∷ slice_index_or x 5 [] ∷ slice_index_or x 6 [] ∷ slice_index_or x 7 []
    ∷ (0x80000000 ∷ 0x80000000 ∷ 0x80000000 ∷ 0x80000000 ∷ []) ∷ (0 ∷ 0 ∷ 0 ∷ 0 ∷ []) ∷ (0 ∷ 0 ∷ 0 ∷ 0 ∷ []) ∷ (0 ∷ 0 ∷ 0 ∷ 0 ∷ []) ∷ (0 ∷ 0 ∷ 0 ∷ 0 ∷ []) ∷ (0 ∷ 0 ∷ 0 ∷ 0 ∷ []) ∷ (0 ∷ 0 ∷ 0 ∷ 0 ∷ []) ∷ (768 ∷ 768 ∷ 768 ∷ 768 ∷ []) ∷ [])
    ≡ last_words (lane j x)
lane_of_last x j lt =
    rw (
      slice_index-lane x j 0,
      slice_index-lane x j 1,
      slice_index-lane x j 2,
      slice_index-lane x j 3,
      slice_index-lane x j 4,
      slice_index-lane x j 5,
      slice_index-lane x j 6,
      slice_index-lane x j 7,
      splat_at 0x80000000 j lt,
      splat_at 0 j lt,
      splat_at 768 j lt,
    ) refl

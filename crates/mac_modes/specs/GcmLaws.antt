-- lemmas only: nothing to believe here
-- A text under GCM's key stream keeps its length and comes back under it again, and a tag has 16 octets.
use Rattle.std.proofs.Common.{◌≡◌, ◌∙◌, ap, ap₂, ℕ, zero, suc, ◌+◌, ◌*◌, ◌%◌, ◌^◌, ◌≤◌, List, [], ◌∷◌, ◌++◌, length, replicate, refl, arith, bit_xor}
use Rattle.std.specs.Int.Bits.{xor_assoc, xor_self, xor_zero_r}
use Rattle.std.proofs.lemmas.List.{length-append}
use Rattle.std.specs.Int.{w128, to_be_bytes, from_be_bytes}
use Rattle.block_core.specs.Bits.{xor_each}
use Rattle.mac_modes.specs.Gcm.{blocks_of, counter, filled, ghash, key_stream, lengths, tag, under_stream}

-- a list xored twice with one at least as long is itself
twice : (xs ys : List ℕ) → length xs ≤ length ys → xor_each (xor_each xs ys) ys ≡ xs
unfolding xor_each
twice [] ys l = refl
twice (x ∷ xs) [] l = absurd (omega arith)
twice (x ∷ xs) (y ∷ ys) l =
    ap₂ (λ (a : ℕ) (b : List ℕ). a ∷ b) (xor_assoc x y y ∙ ap (bit_xor x) (xor_self y) ∙ xor_zero_r x) (twice xs ys (omega arith))

as_long : (xs ys : List ℕ) → length xs ≤ length ys → length (xor_each xs ys) ≡ length xs
unfolding xor_each
as_long [] ys l = refl
as_long (x ∷ xs) [] l = absurd (omega arith)
as_long (x ∷ xs) (y ∷ ys) l = let h : length (xor_each xs ys) ≡ length xs = as_long xs ys (omega arith) in ap suc h

-- a text's blocks have room for it
enough : (n : ℕ) → n ≤ 16 * blocks_of n
enough n = omega arith

-- for an encryption E that takes each counter block to 16 octets
module _ (E : List ℕ → List ℕ) (nonce : List ℕ) (gives : (n : ℕ) → length (E (counter nonce n)) ≡ 16) where
  pub stream-length : (i : ℕ) → length (key_stream E nonce i) ≡ 16 * i
  unfolding key_stream
  stream-length zero = refl
  stream-length (suc i) =
      length-append (key_stream E nonce i) (E (counter nonce ((i + 2) % 2 ^ 32))) ∙ omega (arith, stream-length i, gives ((i + 2) % 2 ^ 32))

  stream_covers : (x : List ℕ) → length x ≤ length (key_stream E nonce (blocks_of (length x)))
  stream_covers x = omega (arith, stream-length (blocks_of (length x)), enough (length x))

  pub under-length : (x : List ℕ) → length (under_stream E nonce x) ≡ length x
  under-length x = as_long x (key_stream E nonce (blocks_of (length x))) (stream_covers x)

  -- the stream undoes itself
  pub under_twice : (x : List ℕ) → under_stream E nonce (under_stream E nonce x) ≡ x
  under_twice x =
      ap (λ (n : ℕ). xor_each (under_stream E nonce x) (key_stream E nonce (blocks_of n))) (under-length x)
      ∙ twice x (key_stream E nonce (blocks_of (length x))) (stream_covers x)

  pub tag-length : (c : List ℕ) → length (tag E nonce c) ≡ 16
  tag-length c =
      as_long (to_be_bytes w128 (ghash (from_be_bytes w128 (E (replicate 16 0))) (blocks_of (length c) + 1) (filled c ++ lengths (length c)))) (E (counter nonce 1)) (omega (arith, gives 1))

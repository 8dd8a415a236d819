-- Salsa20/8 (RFC 7914 section 3) on 64 octets, which are sixteen words, the lowest octet of each
-- first.
use Rattle.std.specs.Prelude.{ℕ, zero, suc, ◌+◌, ◌*◌, ◌%◌, ◌^◌, List, [], ◌∷◌, map, bit_xor, slice_index, slice_set}
use Rattle.std.specs.List.{range_with_len, flat_map}
use Rattle.std.specs.Int.{w32, rotate_left, from_le_bytes, to_le_bytes}

-- the sum of two words
abbrev pub add32 : ℕ → ℕ → ℕ
add32 x y = (x + y) % 2 ^ 32

-- the word at t, xored with the sum of those at x and y, rotated left by k
abbrev pub turned : ℕ → ℕ → ℕ → ℕ → List ℕ → List ℕ
turned t x y k w = slice_set w t
    (bit_xor (slice_index w t) (rotate_left w32 (add32 (slice_index w x) (slice_index w y)) k))

-- four words, each turned by the two before it
unfoldable pub quarter : ℕ → ℕ → ℕ → ℕ → List ℕ → List ℕ
quarter a b c d w = turned a d c 18 (turned d c b 13 (turned c b a 9 (turned b a d 7 w)))

-- the columns, and then the rows
unfoldable pub double_round : List ℕ → List ℕ
double_round w =
    quarter 15 12 13 14 (quarter 10 11 8 9 (quarter 5 6 7 4 (quarter 0 1 2 3
    (quarter 15 3 7 11 (quarter 10 14 2 6 (quarter 5 9 13 1 (quarter 0 4 8 12 w)))))))

-- n double rounds
unfoldable pub double_rounds : ℕ → List ℕ → List ℕ
double_rounds zero w = w
double_rounds (suc n) w = double_round (double_rounds n w)

-- the words of octets
abbrev pub words : List ℕ → List ℕ
words b = map (λ i. from_le_bytes w32
    (slice_index b (4 * i) ∷ slice_index b (4 * i + 1) ∷ slice_index b (4 * i + 2)
    ∷ slice_index b (4 * i + 3) ∷ [])) (range_with_len 0 16)

-- the sums of two lists of words
abbrev pub sums : List ℕ → List ℕ → List ℕ
sums v w = map (λ i. add32 (slice_index v i) (slice_index w i)) (range_with_len 0 16)

-- eight rounds, and the words that they began with added
abbrev pub core : List ℕ → List ℕ
core w = sums (double_rounds 4 w) w

unfoldable pub salsa : List ℕ → List ℕ
salsa b = flat_map (to_le_bytes w32) (core (words b))

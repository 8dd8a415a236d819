-- DES (FIPS 46-3) on lists of bits, the first being bit 1 of the standard, and on octets.
use Rattle.std.specs.Prelude.{ℕ, suc, ◌+◌, ◌*◌, ◌==◌, Bool, List, [], ◌∷◌, ◌++◌, map, take, drop, reverse, cond, slice_index}
use Rattle.std.specs.List.{range_with_len}
use Rattle.block_core.specs.Bits.{bits_of, number_of, cut, bits_of_octets, octets_of_bits, pick, xor_each, rotated}
use Rattle.block_core.specs.DesTables.{initial_permutation, expansion, permutation, permuted_choice_1, permuted_choice_2, left_shifts, s_boxes}

-- the first place of x in a table, counted from 1
unfoldable pub place_of : ℕ → List ℕ → ℕ
place_of x [] = 0
place_of x (y ∷ ys) = cond (x == y) 1 (suc (place_of x ys))

-- the last permutation: the inverse of the initial one
unfoldable pub final_permutation : List ℕ
final_permutation = map (λ i. place_of i initial_permutation) (range_with_len 1 64)

-- an S-box on six bits: the first and the last of them choose the row, the middle four the column
unfoldable pub substitute : List ℕ → List ℕ → List ℕ
substitute box six =
    bits_of 4 (slice_index box
    (16 * number_of (slice_index six 0 ∷ slice_index six 5 ∷ [])
    + number_of (slice_index six 1 ∷ slice_index six 2 ∷ slice_index six 3 ∷ slice_index six 4
    ∷ [])))

-- the S-boxes in order, each on the next six bits
unfoldable pub substitute_all : List (List ℕ) → List ℕ → List ℕ
substitute_all [] bs = []
substitute_all (box ∷ rest) bs = substitute box (take 6 bs) ++ substitute_all rest (drop 6 bs)

-- the cipher function f of a half R and a round key K: P of the S-boxes of E(R) xor K
unfoldable pub cipher_function : List ℕ → List ℕ → List ℕ
cipher_function half key =
    pick permutation (substitute_all s_boxes (xor_each (pick expansion half) key))

-- the halves L and R
pub record Halves : Type 0 where
  pub left : List ℕ
  pub right : List ℕ

-- the halves of 64 bits
abbrev pub halves_of : List ℕ → Halves
halves_of bs = record { left = take 32 bs; right = drop 32 bs }

-- a round: L and R become R and L xor f(R, K)
abbrev pub round : List ℕ → Halves → Halves
round key h = record { left = h.right; right = xor_each h.left (cipher_function h.right key) }

-- the rounds of the keys, in order
unfoldable pub rounds : List (List ℕ) → Halves → Halves
rounds [] h = h
rounds (key ∷ keys) h = rounds keys (round key h)

-- 64 bits under round keys: the initial permutation, the rounds, and the last permutation of the
-- halves exchanged
unfoldable pub enciphered : List (List ℕ) → List ℕ → List ℕ
enciphered keys bs =
    let h = rounds keys (halves_of (pick initial_permutation bs)) in
    pick final_permutation (h.right ++ h.left)

-- the round keys from the halves C and D of the key: before each choice both are rotated by the
-- shift of its round
unfoldable pub keys_from : List ℕ → List ℕ → List ℕ → List (List ℕ)
keys_from [] c d = []
keys_from (n ∷ ns) c d =
    pick permuted_choice_2 (rotated n c ++ rotated n d) ∷ keys_from ns (rotated n c) (rotated n d)

-- the key schedule of a key of 8 octets, its parity bits left out by the first choice
unfoldable pub round_keys : List ℕ → List (List ℕ)
round_keys key =
    let k = pick permuted_choice_1 (bits_of_octets key) in
    keys_from left_shifts (take 28 k) (drop 28 k)

-- a block of 8 octets under round keys
unfoldable pub under_keys : List (List ℕ) → List ℕ → List ℕ
under_keys keys block = octets_of_bits 8 (enciphered keys (bits_of_octets block))

-- DES under a key
abbrev pub des : List ℕ → List ℕ → List ℕ
des key = under_keys (round_keys key)

-- its inverse: the same with the round keys backwards
abbrev pub inv_des : List ℕ → List ℕ → List ℕ
inv_des key = under_keys (reverse (round_keys key))

-- the sixteen round keys that a list of bits has one after the other
abbrev pub keys_of : List ℕ → List (List ℕ)
keys_of keys = cut 48 16 keys

-- round keys in order, or backwards
abbrev pub ordered : Bool → List (List ℕ) → List (List ℕ)
ordered backwards keys = cond backwards (reverse keys) keys

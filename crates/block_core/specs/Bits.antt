-- Lists of bits, each 0 or 1, the highest first; places are counted from 1 as FIPS 46-3 counts
-- them.
use Rattle.std.specs.Prelude.{ℕ, zero, suc, ◌+◌, ◌-◌, ◌*◌, ◌/◌, ◌%◌, ◌^◌, ◌<◌, ◌≤◌, List, [], ◌∷◌, ◌++◌, length, map, take, drop, bit_xor, slice_index}
use Rattle.std.specs.List.{range_with_len, flat_map}

-- the w bits of n
unfoldable pub bits_of : ℕ → ℕ → List ℕ
bits_of w n = map (λ i. n / 2 ^ (w - 1 - i) % 2) (range_with_len 0 w)

-- the number that the bits of n and then these write
unfoldable pub number_from : ℕ → List ℕ → ℕ
number_from n [] = n
number_from n (b ∷ bs) = number_from (2 * n + b) bs

-- the number that bits write
unfoldable pub number_of : List ℕ → ℕ
number_of bs = number_from 0 bs

-- the first n groups of w each
unfoldable pub cut : {X : Type 0} → ℕ → ℕ → List X → List (List X)
cut w zero xs = []
cut w (suc n) xs = take w xs ∷ cut w n (drop w xs)

-- the bits of octets
unfoldable pub bits_of_octets : List ℕ → List ℕ
bits_of_octets os = flat_map (bits_of 8) os

-- the n octets of 8 * n bits
unfoldable pub octets_of_bits : ℕ → List ℕ → List ℕ
octets_of_bits n bs = map number_of (cut 8 n bs)

-- the bits at the places of a table
unfoldable pub pick : List ℕ → List ℕ → List ℕ
pick table bs = map (λ p. slice_index bs (p - 1)) table

-- two lists xored place by place, as far as the shorter goes
unfoldable pub xor_each : List ℕ → List ℕ → List ℕ
xor_each [] ys = []
xor_each (x ∷ xs) [] = []
xor_each (x ∷ xs) (y ∷ ys) = bit_xor x y ∷ xor_each xs ys

-- a list rotated left by n
abbrev pub rotated : ℕ → List ℕ → List ℕ
rotated n xs = drop n xs ++ take n xs

-- each number is 0 or 1
abbrev pub AreBits : List ℕ → Type 0
AreBits bs = (i : ℕ) → slice_index bs i < 2

-- the places of a table are places of n bits
abbrev pub Places : ℕ → List ℕ → Type 0
Places n table = (i : ℕ) → i < length table → (1 ≤ slice_index table i) × (slice_index table i ≤ n)

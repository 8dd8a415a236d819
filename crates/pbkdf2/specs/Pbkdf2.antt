-- PBKDF2 (RFC 8018 section 5.2) over a function f of a message: the pseudorandom function under the
-- password.
use Rattle.std.specs.Prelude.{◌≡◌, ◌<◌, ◌≤◌, length, ℕ, zero, suc, ◌+◌, ◌-◌, ◌/◌, List, [], ◌++◌, take, max}
use Rattle.std.specs.Int.{w32, to_be_bytes}
use Rattle.block_core.specs.Bits.{xor_each}

-- U of place j + 1, where `first` is U of place 1
unfoldable pub chained : (List ℕ → List ℕ) → List ℕ → ℕ → List ℕ
chained f first zero = first
chained f first (suc j) = f (chained f first j)

-- the xor of U of the places 1 to j + 1
unfoldable pub xor_through : (List ℕ → List ℕ) → List ℕ → ℕ → List ℕ
xor_through f first zero = first
xor_through f first (suc j) = xor_each (xor_through f first j) (chained f first (suc j))

-- the block of number i, counted from 1, in r rounds; 0 rounds are one
abbrev pub block : (List ℕ → List ℕ) → List ℕ → ℕ → ℕ → List ℕ
block f salt r i = xor_through f (f (salt ++ to_be_bytes w32 i)) (max r 1 - 1)

-- the first n blocks
unfoldable pub blocks : (List ℕ → List ℕ) → List ℕ → ℕ → ℕ → List ℕ
blocks f salt r zero = []
blocks f salt r (suc n) = blocks f salt r n ++ block f salt r (suc n)

-- the least number of blocks of u octets that have n octets together
abbrev pub block_count : ℕ → ℕ → ℕ
block_count n u = (n + (u - 1)) / u

-- n octets, where an output of f has u
unfoldable pub pbkdf2 : (List ℕ → List ℕ) → ℕ → List ℕ → ℕ → ℕ → List ℕ
pbkdf2 f u salt r n = take n (blocks f salt r (block_count n u))

-- a shorter output is a prefix of a longer one, for outputs of u octets
abbrev pub ShorterIsPrefix : Type 0
ShorterIsPrefix = (f : List ℕ → List ℕ) (u : ℕ) (salt : List ℕ) (r m n : ℕ) → 0 < u
    → ((t : List ℕ) → length (f t) ≡ u)
    → m ≤ n → take m (pbkdf2 f u salt r n) ≡ pbkdf2 f u salt r m

-- zero rounds are one round
abbrev pub ZeroIsOne : Type 0
ZeroIsOne = (f : List ℕ → List ℕ) (u : ℕ) (salt : List ℕ) (n : ℕ)
    → pbkdf2 f u salt 0 n ≡ pbkdf2 f u salt 1 n

-- an output has as many octets as are asked for
abbrev pub HasItsLength : Type 0
HasItsLength = (f : List ℕ → List ℕ) (u : ℕ) (salt : List ℕ) (r n : ℕ) → 0 < u
    → ((t : List ℕ) → length (f t) ≡ u)
    → length (pbkdf2 f u salt r n) ≡ n

-- Padding to whole blocks (RFC 5652 section 6.3).
use Rattle.std.specs.Prelude.{ℕ, ◌-◌, ◌%◌, List, ◌++◌, length, replicate}

-- how many octets are added to a text of this length: 1 to n, up to the next multiple of n
abbrev pub pad_count : ℕ → ℕ → ℕ
pad_count n len = n - len % n

-- m and k octets of value k, up to whole blocks of n octets
abbrev pub padded : List ℕ → ℕ → List ℕ
padded m n = m ++ replicate (pad_count n (length m)) (pad_count n (length m))

-- The octets of an array, with zeros after them.
use Rattle.std.specs.Prelude.{ℕ, ◌≡◌, ◌-◌, ◌≤◌, List, ◌++◌, length, drop, replicate}

-- the octets and zeros after them, up to n
abbrev pub padded : ℕ → List ℕ → List ℕ
padded n d = d ++ replicate (n - length d) 0

-- An array of n places that holds `size` octets, with zeros after them.
abbrev pub IsPadded : ℕ → ℕ → List ℕ → Type 0
IsPadded n size all = (size ≤ n) × (length all ≡ n) × (drop size all ≡ replicate (n - size) 0)

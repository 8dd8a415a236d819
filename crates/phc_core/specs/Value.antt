-- Values of parameters (the PHC string format, "Specification").
use Rattle.std.specs.Prelude.{◌≡◌, ℕ, ◌≤◌, ◌⊎◌, List, length, All}
use Rattle.std.specs.Int.{IsInRange}

-- a letter, a digit, `/`, `+`, `.` or `-`
abbrev pub IsValueOctet : ℕ → Type 0
IsValueOctet b = IsInRange 97 122 b ⊎ IsInRange 65 90 b ⊎ IsInRange 45 57 b ⊎ (b ≡ 43)

-- a value: 1 to 64 of these
abbrev pub IsValue : List ℕ → Type 0
IsValue t = (1 ≤ length t) × (length t ≤ 64) × All IsValueOctet t

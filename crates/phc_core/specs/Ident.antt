-- Identifiers of PHC strings (the PHC string format, "Specification").
use Rattle.std.specs.Prelude.{◌≡◌, ℕ, ◌≤◌, ◌⊎◌, List, length, All}
use Rattle.std.specs.Int.{IsInRange}

-- a lower-case letter, a digit or `-`
abbrev pub IsNameOctet : ℕ → Type 0
IsNameOctet b = IsInRange 97 122 b ⊎ IsInRange 48 57 b ⊎ (b ≡ 45)

-- an identifier, or the name of a parameter: 1 to 32 of these
abbrev pub IsIdent : List ℕ → Type 0
IsIdent t = (1 ≤ length t) × (length t ≤ 32) × All IsNameOctet t

-- The text that is due, and what a write of it leaves.
use Rattle.std.specs.Prelude.{ℕ, ◌≡◌, ◌≢◌, List, [], ◌++◌, Option, codes}
use Rattle.std.specs.List.{flat_map}
use Rattle.std.specs.Io.KnownBytes.{Appends}
use Rattle.hex.specs.Hex.{encode_lower}

-- A line of a label and lower-case digits.
abbrev pub digits_line : List ℕ → List ℕ → List ℕ
digits_line label octets = label ++ encode_lower octets ++ codes "\n"

-- lines, one after the other
abbrev pub joined : List (List ℕ) → List ℕ
joined lines = flat_map (λ line. line) lines

-- Known octets grow by a proper prefix of the text.
abbrev pub AppendsPart : Option (List ℕ) → Option (List ℕ) → List ℕ → Type 0
AppendsPart old new text = (part : List ℕ) × (rest : List ℕ) × (text ≡ part ++ rest) × (rest ≢ [])
    × Appends old new part

-- What of a file is the password.
use Rattle.std.specs.Prelude.{◌-◌, ◌==◌, ◌∷◌, [], ℕ, List, Option, Some, None, cond, drop, length, nat_eq, position, take}
use Rattle.std.specs.Cmp.Lexicographic.{pointwise}

-- a line without a carriage return at its end
unfoldable pub without_return : List ℕ → List ℕ
without_return line =
    cond (pointwise nat_eq (drop (length line - 1) line) (13 ∷ []))
    (take (length line - 1) line) line

-- the octets in front of a line feed at this place, without a carriage return there; all octets
-- where there is none
unfoldable pub line_to : Option ℕ → List ℕ → List ℕ
line_to None octets = octets
line_to (Some end) octets = without_return (take end octets)

-- the first line
abbrev pub line_of : List ℕ → List ℕ
line_of octets = line_to (position (λ octet. octet == 10) octets) octets

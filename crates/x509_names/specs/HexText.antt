-- Octets as upper-case hexadecimal digits.
use Rattle.std.specs.Prelude.{ℕ, ◌+◌, ◌/◌, ◌%◌, List, [], ◌∷◌, cond, nat_lt}
use Rattle.std.specs.List.{flat_map}

-- the digit of a number below 16: `0` to `9` are 48 to 57, `A` to `F` are 65 to 70
abbrev pub hex_digit : ℕ → ℕ
hex_digit n = cond (nat_lt n 10) (48 + n) (55 + n)

-- the two digits of an octet, the higher first
unfoldable pub two_digits : ℕ → List ℕ
two_digits b = hex_digit (b / 16) ∷ hex_digit (b % 16) ∷ []

-- the digits of each octet, after a `#` (35)
abbrev pub hex_text : List ℕ → List ℕ
hex_text octets = 35 ∷ flat_map two_digits octets

-- Octets in hexadecimal digits.
use Rattle.std.specs.Prelude.{ℕ, ◌/◌, ◌%◌, ◌∷◌, ◌++◌, [], List, false, if◌then◌else◌, codes}
use Rattle.std.specs.Prelude.{length, nat_lt, take}
use Rattle.std.specs.Fmt.{decimal, digit_glyph}
use Rattle.std.specs.List.{flat_map}

-- an octet in two digits, the higher one first
abbrev pub hexadecimal_octet : ℕ → List ℕ
hexadecimal_octet n = digit_glyph false (n / 16) ∷ digit_glyph false (n % 16) ∷ []

-- how many octets there are, where there are more than 100
unfoldable pub octet_count : List ℕ → List ℕ
octet_count octets = if nat_lt 100 (length octets)
    then codes ".. (" ++ decimal (length octets) ++ codes " octets)" else []

-- octets as they are printed: the first 100, and how many there are where there are more
abbrev pub hexadecimal : List ℕ → List ℕ
hexadecimal octets = flat_map hexadecimal_octet (take 100 octets) ++ octet_count octets

-- The password of a store (RFC 7292 appendix B.1): UTF-16, the higher octet of each unit first, and
-- two zero octets.
use Rattle.std.specs.Prelude.{ℕ, List, [], ◌∷◌, ◌++◌}
use Rattle.std.specs.List.{flat_map}
use Rattle.std.specs.Int.{w16, to_be_bytes}
use Rattle.std.specs.Str.{chars}
use Rattle.std.specs.Char.Escape.{encode_utf16}

-- the octets of one character: one unit, or a pair of surrogates
abbrev pub units_of_char : ℕ → List ℕ
units_of_char c = flat_map (λ unit. to_be_bytes w16 unit) (encode_utf16 c)

-- the password of a text, which is given by its UTF-8
unfoldable pub bmp_password : List ℕ → List ℕ
bmp_password p = flat_map units_of_char (chars p) ++ 0 ∷ 0 ∷ []

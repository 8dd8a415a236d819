-- Strings of JSON (RFC 8259 section 7).
use Rattle.std.specs.Prelude.{ℕ, ◌≡◌, ◌+◌, ◌*◌, ◌/◌, ◌%◌, ◌||◌, ◌∷◌, ◌++◌, [], List, Bool}
use Rattle.std.specs.Prelude.{true, Contains, Some, IsUtf8, if◌then◌else◌, codes, map}
use Rattle.std.specs.Char.{digit_value, encode_utf8, is_ascii_hexdigit}
use Rattle.std.specs.Char.Escape.{encode_utf16}
use Rattle.std.specs.Char.Utf16.{utf16_chars}
use Rattle.std.specs.Int.{is_in_range}
use Rattle.std.specs.List.{flat_map, list_all}
use Rattle.std.specs.Str.{chars, encode_utf8_all}
use Rattle.terminal_text.specs.Hexadecimal.{hexadecimal_octet}
use Rattle.terminal_text.specs.Printable.{IsShown, stays}

-- a unit of UTF-16 as `\uXXXX`
abbrev pub unit_escape : ℕ → List ℕ
unit_escape unit =
    codes "\\u" ++ hexadecimal_octet (unit / 256) ++ hexadecimal_octet (unit % 256)

-- a character as it is printed: its own octets, or each of its units of UTF-16 as `\uXXXX`
abbrev pub json_char : ℕ → List ℕ
json_char c = if stays true c then encode_utf8 c else flat_map unit_escape (encode_utf16 c)

-- a text as it is printed
abbrev pub json_string : List ℕ → List ℕ
json_string text = codes "\"" ++ flat_map json_char (chars text) ++ codes "\""

-- octets as they are printed: two hexadecimal digits for each
abbrev pub json_hexadecimal : List ℕ → List ℕ
json_hexadecimal octets = codes "\"" ++ flat_map hexadecimal_octet octets ++ codes "\""

-- unescaped = %x20-21 / %x23-5B / %x5D-10FFFF
abbrev pub is_unescaped : ℕ → Bool
is_unescaped c = is_in_range 0x20 0x21 c || is_in_range 0x23 0x5B c
    || is_in_range 0x5D 0x10FFFF c

-- the characters that may follow a backslash, beside `u`, and the units that they stand for
abbrev pub short_escapes : List (ℕ × ℕ)
short_escapes = (0x22, 0x22) ∷ (0x5C, 0x5C) ∷ (0x2F, 0x2F) ∷ (0x62, 0x08) ∷ (0x66, 0x0C)
    ∷ (0x6E, 0x0A) ∷ (0x72, 0x0D) ∷ (0x74, 0x09) ∷ []

-- the number that four hexadecimal digits write
abbrev pub four_digits_value : ℕ → ℕ → ℕ → ℕ → ℕ
four_digits_value a b c d =
    ((digit_value a * 16 + digit_value b) * 16 + digit_value c) * 16 + digit_value d

-- Characters between the quotation marks of a string, and the units of UTF-16 that they stand
-- for: a character that is not escaped, a backslash (5C) with one of the characters that may
-- follow it, and a backslash with `u` (75) and four hexadecimal digits.
pub data StandFor : List ℕ → List ℕ → Type 0 where
  nothing : StandFor [] []
  unescaped : (c : ℕ) (cs units : List ℕ) → is_unescaped c ≡ true → StandFor cs units
      → StandFor (c ∷ cs) (encode_utf16 c ++ units)
  short : (letter unit : ℕ) (cs units : List ℕ) → Contains short_escapes (letter, unit)
      → StandFor cs units → StandFor (0x5C ∷ letter ∷ cs) (unit ∷ units)
  long : (a b c d : ℕ) (cs units : List ℕ)
      → list_all is_ascii_hexdigit (a ∷ b ∷ c ∷ d ∷ []) ≡ true → StandFor cs units
      → StandFor (0x5C ∷ 0x75 ∷ a ∷ b ∷ c ∷ d ∷ cs) (four_digits_value a b c d ∷ units)

-- The octets are a string whose value is the text: characters in UTF-8 between quotation marks,
-- which stand for the units of UTF-16 of the text's characters.
abbrev pub IsJsonString : List ℕ → List ℕ → Type 0
IsJsonString octets text = (cs : List ℕ) × (units : List ℕ)
    × (octets ≡ codes "\"" ++ encode_utf8_all cs ++ codes "\"") × StandFor cs units
    × (utf16_chars units ≡ map (λ c. Some c) (chars text))

-- What is printed of a text is a string whose value is the text, and a terminal shows it, in
-- one line.
abbrev pub JsonStringIsText : Type 0
JsonStringIsText = (text : List ℕ) → IsUtf8 text
    → IsJsonString (json_string text) text × IsShown (json_string text)

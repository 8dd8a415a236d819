-- Text from outside as a terminal is shown it.
use Rattle.std.specs.Prelude.{ℕ, ◌≡◌, ◌==◌, ◌&&◌, ◌||◌, ◌++◌, [], List, Bool, true, false, cond, not, length, nat_lt, take, codes}
use Rattle.std.specs.Char.{encode_utf8}
use Rattle.std.specs.Fmt.{decimal, digits}
use Rattle.std.specs.List.{flat_map, list_all}
use Rattle.std.specs.Str.{chars, encode_utf8_all}
use Rattle.ucd_category.specs.GeneralCategory.{general_category}
use Rattle.ucd_category.specs.declared.GeneralCategory.{GeneralCategory}
use Rattle.ucd_category.specs.declared.GeneralCategory.TheVariants.{Control, Format, LineSeparator, ParagraphSeparator, Surrogate}
use Rattle.ucd_derived.specs.Binary.{is_default_ignorable_code_point}

-- characters of this category are shown
unfoldable pub is_shown : GeneralCategory → Bool
is_shown Control = false
is_shown Format = false
is_shown LineSeparator = false
is_shown ParagraphSeparator = false
is_shown Surrogate = false
is_shown category = true

-- a terminal shows the character of this code point, and does nothing else with it: its category is
-- one that is shown, and a font does not leave it out, as it does a filler
abbrev pub is_printable : ℕ → Bool
is_printable c = is_shown (general_category c) && not (is_default_ignorable_code_point c)

-- the character is printed as it is; between quotation marks, these (34) and backslashes (92) are
-- not
abbrev pub stays : Bool → ℕ → Bool
stays in_quotes c = is_printable c && not (in_quotes && (c == 34 || c == 92))

-- the octets of a character as it is printed: its own in UTF-8, or its number in hexadecimal digits
abbrev pub printed_char : Bool → ℕ → List ℕ
printed_char in_quotes c =
    cond (stays in_quotes c) (encode_utf8 c) (codes "\\u{" ++ digits 16 false c ++ codes "}")

-- the first 200 characters of a text
unfoldable pub printed_front : Bool → List ℕ → List ℕ
printed_front in_quotes text = flat_map (printed_char in_quotes) (take 200 (chars text))

-- how many there are, where there are more
unfoldable pub printed_count : List ℕ → List ℕ
printed_count text =
    cond (nat_lt 200 (length (chars text)))
    (codes ".. (" ++ decimal (length (chars text)) ++ codes " characters)") []

-- a text as it is printed
abbrev pub printed : List ℕ → List ℕ
printed text = printed_front false text ++ printed_count text

-- a text as it is printed between quotation marks
abbrev pub quoted : List ℕ → List ℕ
quoted text = codes "\"" ++ printed_front true text ++ codes "\"" ++ printed_count text

-- the octets are characters that a terminal shows, in UTF-8
abbrev pub IsShown : List ℕ → Type 0
IsShown octets = (cs : List ℕ) × (encode_utf8_all cs ≡ octets) × (list_all is_printable cs ≡ true)

-- Whatever a text is, what is printed of it is shown.
abbrev pub PrintedIsShown : Type 0
PrintedIsShown = (text : List ℕ) → IsShown (printed text) × IsShown (quoted text)

-- The text of values of attributes (RFC 4514 section 2.4).
use Rattle.std.specs.Prelude.{ℕ, ◌==◌, ◌&&◌, ◌||◌, Bool, true, false, List, [], ◌∷◌, ◌++◌, Result, Ok, Err, cond, length, slice_index}
use Rattle.std.specs.Str.{encode_utf8_all, is_utf8}
use Rattle.asn1_core.specs.Reading.{All, Bad, Fault, Front, where_ok, whole, within}
use Rattle.asn1_core.specs.Unicode.{bmp_at}
use Rattle.x509_names.specs.HexText.{hex_text}
use Rattle.x509_names.specs.Printable.{shown}

-- `,` `+` `"` `\` `<` `>` and `;` are written after a backslash wherever they are
abbrev pub is_special : ℕ → Bool
is_special b = b == 44 || b == 43 || b == 34 || b == 92 || b == 60 || b == 62 || b == 59

-- so are a `#` and a space at the front, and a space at the end
abbrev pub has_backslash : Bool → Bool → ℕ → Bool
has_backslash first last b = is_special b || (first && (b == 35 || b == 32)) || (last && b == 32)

-- an octet of a text, by whether it is the first and whether it is the last
unfoldable pub escaped_octet : Bool → Bool → ℕ → List ℕ
escaped_octet first last b = cond (has_backslash first last b) (92 ∷ shown b) (shown b)

-- the rest of a text, by whether it is all of it
abbrev pub escaped_from : Bool → List ℕ → List ℕ
escaped_from first [] = []
escaped_from first (b ∷ t) = escaped_octet first (length t == 0) b ++ escaped_from false t

-- a text in UTF-8 with its backslashes
abbrev pub escaped : List ℕ → List ℕ
escaped t = escaped_from true t

-- ---- strings

-- octets that are UTF-8
abbrev pub utf8_of : All (List ℕ)
utf8_of b = where_ok (is_utf8 b) b

-- UTF8String
abbrev pub utf8_at : Front (List ℕ)
utf8_at = within 0x0c utf8_of

-- octets of ISO 8859-1 in UTF-8
abbrev pub latin_of : All (List ℕ)
latin_of b = Ok (encode_utf8_all b)

-- an element of this tag, of such octets
abbrev pub latin_at : ℕ → Front (List ℕ)
latin_at tag = within tag latin_of

-- NumericString, PrintableString, T61String, IA5String, VisibleString
abbrev pub is_latin : ℕ → Bool
is_latin tag = tag == 0x12 || tag == 0x13 || tag == 0x14 || tag == 0x16 || tag == 0x1a

-- the characters in UTF-8 of an element of this tag: of a UTF8String, a BMPString or one of the
-- others
abbrev pub string_of : ℕ → All (List ℕ)
string_of tag b =
    cond (tag == 0x0c) (whole utf8_at b)
    (cond (tag == 0x1e) (whole bmp_at b)
    (cond (is_latin tag) (whole (latin_at tag) b) (Err Bad)))

-- the same of an element of any tag
unfoldable pub characters : All (List ℕ)
characters b = string_of (slice_index b 0) b

-- the characters, or the octets b where there are none
abbrev pub or_hex : List ℕ → Result (List ℕ) Fault → List ℕ
or_hex b (Ok t) = escaped t
or_hex b (Err f) = hex_text b

-- a value, a whole element: its characters where it is a string of characters, else `#` and its
-- digits
unfoldable pub value_text : List ℕ → List ℕ
value_text b = or_hex b (characters b)

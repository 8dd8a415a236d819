-- Texts of characters: BMPString and IA5String (X.690 section 8.23).
use Rattle.std.specs.Prelude.{◌≡◌, ℕ, ◌/◌, ◌%◌, ◌*◌, ◌+◌, List, [], ◌∷◌, IsTrue, Bool, true, nat_lt, Result, Ok, Err, not}
use Rattle.std.specs.Str.{encode_utf8_all, all_scalars, chars}
use Rattle.std.specs.Char.Escape.{encode_utf16}
use Rattle.std.specs.Char.Utf16.{utf16_lossy_chars, has_unpaired_surrogate}
use Rattle.std.specs.List.{flat_map, list_all}
use Rattle.asn1_core.specs.Texts.{Within}
use Rattle.asn1_core.specs.Reading.{Fault, Bad, Front, All, ◌>>=◌, where_ok, are_octets, within}

-- 16-bit units, each as two octets, the higher first
unfoldable pub unit_octets : List ℕ → List ℕ
unit_octets [] = []
unit_octets (u ∷ us) = u / 256 ∷ u % 256 ∷ unit_octets us

-- t is the UTF-8 of characters of which b are the units
abbrev pub Units : List ℕ → List ℕ → Type 0
Units b t = (cs : List ℕ) × (all_scalars cs ≡ true) × (encode_utf8_all cs ≡ t)
    × (b ≡ unit_octets (flat_map encode_utf16 cs))

-- the units of one character, and those of a text that is given by its UTF-8
abbrev pub char_units : ℕ → List ℕ
char_units c = unit_octets (encode_utf16 c)

abbrev pub text_units : List ℕ → List ℕ
text_units t = flat_map char_units (chars t)

abbrev pub Bmp : List ℕ → List ℕ → Type 0
Bmp = Within 0x1e Units

abbrev pub is_ascii_text : List ℕ → Bool
is_ascii_text = list_all (λ c. nat_lt c 128)

abbrev pub Ascii : List ℕ → List ℕ → Type 0
Ascii b t = (b ≡ t) × IsTrue (is_ascii_text t)

abbrev pub Ia5 : List ℕ → List ℕ → Type 0
Ia5 = Within 0x16 Ascii

-- ---- reading

unfoldable pub units_in : List ℕ → Result (List ℕ) Fault
units_in [] = Ok []
units_in (a ∷ []) = Err Bad
units_in (a ∷ b ∷ bs) = units_in bs >>= λ us. Ok ((256 * a + b) ∷ us)

-- the text of these units, where no surrogate is alone
abbrev pub units_text : All (List ℕ)
units_text b = units_in b
    >>= λ us. where_ok (not (has_unpaired_surrogate us)) (encode_utf8_all (utf16_lossy_chars us))

abbrev pub units_all : All (List ℕ)
units_all b = where_ok (are_octets b) b >>= units_text

unfoldable pub bmp_at : Front (List ℕ)
bmp_at = within 0x1e units_all

abbrev pub ascii_all : All (List ℕ)
ascii_all b = where_ok (is_ascii_text b) b

unfoldable pub ia5_at : Front (List ℕ)
ia5_at = within 0x16 ascii_all

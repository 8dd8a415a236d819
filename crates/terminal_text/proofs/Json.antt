-- What is printed of a text is a string of JSON whose value is the text.
use Rattle.std.proofs.Common.{ℕ, ◌≡◌, ◌==◌, ◌+◌, ◌-◌, ◌*◌, ◌/◌, ◌%◌, ◌<◌, ◌≤◌, ◌&&◌, ◌||◌, ◌++◌, ◌∷◌, [], List, Bool, true, false, not, cond, Some, codes, map, refl, sym, ap, ◌∙◌, inl, inr, ⊎_elim, arith, append-nil, append_assoc, subst}
use Rattle.std.proofs.lemmas.Bool.{and_parts, cases_lt, not-true}
use Rattle.std.proofs.lemmas.Bool.Decides.{nat_tests}
use Rattle.std.proofs.lemmas.List.Folds.{list_all-append}
use Rattle.std.proofs.lemmas.Str.{encodes-IsAscii, encodes-append, scalars-chars, utf16_chars-nil, utf16_chars_lone, utf16_chars_pair}
use Rattle.std.proofs.lemmas.Str.Ascii.{IsAscii-cons, IsAscii-nil}
use Rattle.std.proofs.str.Utf16.{one_unit, two_units, lone_unit_char_low, lone_unit_char_high}
use Rattle.std.specs.Char.{digit_value, encode_utf8, is_ascii_hexdigit}
use Rattle.std.specs.Char.Escape.{encode_utf16}
use Rattle.std.specs.Char.Utf16.{lone_unit_char, surrogate_pair_char, utf16_chars}
use Rattle.std.specs.Fmt.{digit_glyph}
use Rattle.std.specs.List.{flat_map, list_all}
use Rattle.std.specs.Str.{IsAscii, chars, encode_utf8_all}
use lib.Utf8.{scalar, scalars, scalar_cases}
use Rattle.terminal_text.specs.JsonString.{JsonStringIsText, StandFor, nothing, unescaped, long, four_digits_value, is_unescaped, json_char, unit_escape}
use Rattle.terminal_text.specs.Printable.{is_printable, stays}
use Rattle.terminal_text.proofs.Shown.{glyph_plain, plain_printable, printable_high, shown_append, shown_plain}

-- ---- Digits

glyph_value : (d : ℕ) → d < 16 → digit_value (digit_glyph false d) ≡ d
glyph_value d h = grind (arith, nat_tests)

glyph_hexadecimal : (d : ℕ) → d < 16 → is_ascii_hexdigit (digit_glyph false d) ≡ true
glyph_hexadecimal d h = grind (arith, nat_tests)

glyph_ascii : (d : ℕ) → d < 16 → digit_glyph false d < 128
glyph_ascii d h = grind (arith, nat_tests)

glyph_printable : (d : ℕ) → d < 16 → is_printable (digit_glyph false d) ≡ true
glyph_printable d h = plain_printable (digit_glyph false d) (glyph_plain d h)

-- ---- Pieces of a string

-- the octets are printable characters, which stand for these units whatever comes after them
abbrev Stands : List ℕ → List ℕ → Type 0
Stands octets units = (cs : List ℕ) × (encode_utf8_all cs ≡ octets) × (list_all is_printable cs ≡ true)
    × ((ds us : List ℕ) → StandFor ds us → StandFor (cs ++ ds) (units ++ us))

stands_nil : Stands [] []
stands_nil = ([], refl, refl, λ ds us h. h)

stands_append : (a u b v : List ℕ) → Stands a u → Stands b v → Stands (a ++ b) (u ++ v)
stands_append a u b v p q = (
  p.0 ++ q.0,
  encodes-append p.0 q.0 ∙ ap (λ zs. zs ++ encode_utf8_all q.0) p.1 ∙ ap (λ zs. a ++ zs) q.1,
  list_all-append is_printable p.0 q.0 ∙ ap (λ t. t && list_all is_printable q.0) p.2 ∙ q.2,
  λ ds us h. rw (append_assoc p.0 q.0 ds, append_assoc u v us) (p.3 (q.0 ++ ds) (v ++ us) (q.3 ds us h)),
)

stands_itself : (c : ℕ) → is_printable c ≡ true → is_unescaped c ≡ true → Stands (encode_utf8 c) (encode_utf16 c)
stands_itself c shown is = (
  c ∷ [],
  append-nil (encode_utf8 c),
  ap (λ t. t && true) shown,
  λ ds us h. unescaped c ds us is h,
)

digits_value : (u : ℕ) (a b c d : ℕ) → a ≡ u / 256 / 16 → b ≡ u / 256 % 16 → c ≡ u % 256 / 16 → d ≡ u % 256 % 16
    → ((a * 16 + b) * 16 + c) * 16 + d ≡ u
digits_value u a b c d p q r s = omega arith

four_true : (x y z w : Bool) → x ≡ true → y ≡ true → z ≡ true → w ≡ true → (x && (y && (z && (w && true)))) ≡ true
four_true x y z w a b c d = rw (a, b, c, d) refl

stands_unit : (u : ℕ) → u < 65536 → Stands (unit_escape u) (u ∷ [])
stands_unit u h =
    let a : u / 256 / 16 < 16 = omega arith in
    let b : u / 256 % 16 < 16 = omega arith in
    let c : u % 256 / 16 < 16 = omega arith in
    let d : u % 256 % 16 < 16 = omega arith in
    let p = digit_glyph false (u / 256 / 16) in
    let q = digit_glyph false (u / 256 % 16) in
    let r = digit_glyph false (u % 256 / 16) in
    let s = digit_glyph false (u % 256 % 16) in
    let value : four_digits_value p q r s ≡ u =
    digits_value u (digit_value p) (digit_value q) (digit_value r) (digit_value s)
    (glyph_value (u / 256 / 16) a) (glyph_value (u / 256 % 16) b) (glyph_value (u % 256 / 16) c) (glyph_value (u % 256 % 16) d) in
    let digits : list_all is_ascii_hexdigit (p ∷ q ∷ r ∷ s ∷ []) ≡ true =
    four_true (is_ascii_hexdigit p) (is_ascii_hexdigit q) (is_ascii_hexdigit r) (is_ascii_hexdigit s)
    (glyph_hexadecimal (u / 256 / 16) a) (glyph_hexadecimal (u / 256 % 16) b) (glyph_hexadecimal (u % 256 / 16) c) (glyph_hexadecimal (u % 256 % 16) d) in
    let shown : list_all is_printable (p ∷ q ∷ r ∷ s ∷ []) ≡ true =
    four_true (is_printable p) (is_printable q) (is_printable r) (is_printable s)
    (glyph_printable (u / 256 / 16) a) (glyph_printable (u / 256 % 16) b) (glyph_printable (u % 256 / 16) c) (glyph_printable (u % 256 % 16) d) in
    let ascii : IsAscii (p ∷ q ∷ r ∷ s ∷ []) =
    IsAscii-cons p (q ∷ r ∷ s ∷ []) (glyph_ascii (u / 256 / 16) a) (IsAscii-cons q (r ∷ s ∷ []) (glyph_ascii (u / 256 % 16) b)
    (IsAscii-cons r (s ∷ []) (glyph_ascii (u % 256 / 16) c) (IsAscii-cons s [] (glyph_ascii (u % 256 % 16) d) IsAscii-nil))) in (
      unit_escape u,
      encodes-IsAscii (unit_escape u) (IsAscii-cons 92 (117 ∷ p ∷ q ∷ r ∷ s ∷ []) (omega arith) (IsAscii-cons 117 (p ∷ q ∷ r ∷ s ∷ []) (omega arith) ascii)),
      ap (λ t. t && (is_printable 117 && list_all is_printable (p ∷ q ∷ r ∷ s ∷ []))) (plain_printable 92 refl)
          ∙ ap (λ t. t && list_all is_printable (p ∷ q ∷ r ∷ s ∷ [])) (plain_printable 117 refl) ∙ shown,
      λ ds us k. subst (λ (n : ℕ). StandFor (unit_escape u ++ ds) (n ∷ us)) value (long p q r s ds us digits k),
    )

-- ---- Characters

stands_one : (c : ℕ) → c < 0x1_0000 → Stands (flat_map unit_escape (c ∷ [])) (c ∷ [])
stands_one c h = stands_append (unit_escape c) (c ∷ []) [] [] (stands_unit c h) stands_nil

stands_two : (u v : ℕ) → u < 0x1_0000 → v < 0x1_0000 → Stands (flat_map unit_escape (u ∷ v ∷ [])) (u ∷ v ∷ [])
stands_two u v h k = stands_append (unit_escape u) (u ∷ []) (flat_map unit_escape (v ∷ [])) (v ∷ []) (stands_unit u h) (stands_one v k)

stands_escape : (c : ℕ) → c < 0x11_0000 → Stands (flat_map unit_escape (encode_utf16 c)) (encode_utf16 c)
stands_escape c h = elim (cases_lt c 0x1_0000) [
  | inl low ↦ subst (λ (us : List ℕ). Stands (flat_map unit_escape us) us) (sym (one_unit c low)) (stands_one c low)
  | inr high ↦ subst (λ (us : List ℕ). Stands (flat_map unit_escape us) us) (sym (two_units c high)) (stands_two _ _ (omega arith) (omega arith))
]

unescaped_of : (c : ℕ) → c < 0x11_0000 → 32 ≤ c → (c == 34 || c == 92) ≡ false → is_unescaped c ≡ true
unescaped_of c top low apart = grind (arith, nat_tests)

stands_stay : (c : ℕ) → c < 0x11_0000 → stays true c ≡ true → Stands (encode_utf8 c) (encode_utf16 c)
stands_stay c h s =
    let parts = and_parts (is_printable c) (not (c == 34 || c == 92)) s in
    stands_itself c parts.0 (unescaped_of c h (printable_high c parts.0) (not-true (c == 34 || c == 92) parts.1))

stands_if : (c : ℕ) (s : Bool) → s ≡ stays true c → c < 0x11_0000
    → Stands (cond s (encode_utf8 c) (flat_map unit_escape (encode_utf16 c))) (encode_utf16 c)
stands_if c true is h = stands_stay c h (sym is)
stands_if c false is h = stands_escape c h

scalar_below : (c : ℕ) → scalar c ≡ true → c < 0x11_0000
scalar_below c h = ⊎_elim (λ low. omega arith) (λ high. high.1) (scalar_cases c h)

stands_all : (cs : List ℕ) → scalars cs ≡ true → Stands (flat_map json_char cs) (flat_map encode_utf16 cs)
stands_all [] h = stands_nil
stands_all (c ∷ cs) h =
    let parts = and_parts (scalar c) (scalars cs) h in
    stands_append (json_char c) (encode_utf16 c) (flat_map json_char cs) (flat_map encode_utf16 cs)
    (stands_if c (stays true c) refl (scalar_below c parts.0)) (stands_all cs parts.1)

-- ---- Units

lone_char : (c : ℕ) → scalar c ≡ true → lone_unit_char c ≡ Some c
lone_char c h = ⊎_elim (λ low. lone_unit_char_low c low) (λ high. lone_unit_char_high c high.0) (scalar_cases c h)

lone_read : (c : ℕ) (us : List ℕ) → scalar c ≡ true → utf16_chars (c ∷ us) ≡ Some c ∷ utf16_chars us
lone_read c us h =
    utf16_chars_lone c us (λ pair. ⊎_elim (λ low. absurd (omega (arith, pair.0))) (λ high. absurd (omega (arith, pair.1, high.0))) (scalar_cases c h))
    ∙ ap (λ o. o ∷ utf16_chars us) (lone_char c h)

pair_read : (c : ℕ) (us : List ℕ) → 0x1_0000 ≤ c → c < 0x11_0000
    → utf16_chars ((0xD800 + (c - 0x1_0000) / 0x400) ∷ (0xDC00 + (c - 0x1_0000) % 0x400) ∷ us) ≡ Some c ∷ utf16_chars us
pair_read c us high below =
    let same : surrogate_pair_char (0xD800 + (c - 0x1_0000) / 0x400) (0xDC00 + (c - 0x1_0000) % 0x400) ≡ c = omega arith in
    utf16_chars_pair _ _ us (omega arith, omega arith, omega arith, omega arith) ∙ ap (λ n. Some n ∷ utf16_chars us) same

char_read : (c : ℕ) (us : List ℕ) → scalar c ≡ true → utf16_chars (encode_utf16 c ++ us) ≡ Some c ∷ utf16_chars us
char_read c us h = elim (cases_lt c 0x1_0000) [
  | inl low ↦ ap (λ (vs : List ℕ). utf16_chars (vs ++ us)) (one_unit c low) ∙ lone_read c us h
  | inr high ↦ ap (λ (vs : List ℕ). utf16_chars (vs ++ us)) (two_units c high) ∙ pair_read c us high (scalar_below c h)
]

units_read : (cs : List ℕ) → scalars cs ≡ true → utf16_chars (flat_map encode_utf16 cs) ≡ map (λ c. Some c) cs
units_read [] h = utf16_chars-nil
units_read (c ∷ cs) h =
    let parts = and_parts (scalar c) (scalars cs) h in
    char_read c (flat_map encode_utf16 cs) parts.0 ∙ ap (λ os. Some c ∷ os) (units_read cs parts.1)

-- ---- The string

pub json_string_is_text : JsonStringIsText
json_string_is_text text utf8 =
    let scalar_all = scalars-chars text utf8 in
    let units = flat_map encode_utf16 (chars text) in
    let body = flat_map json_char (chars text) in
    let s = stands_all (chars text) scalar_all in
    let mark = shown_plain (codes "\"") refl in
    let whole : StandFor s.0 units = subst (λ (us : List ℕ). StandFor s.0 us) (append-nil units)
    (subst (λ (cs : List ℕ). StandFor cs (units ++ [])) (append-nil s.0) (s.3 [] [] nothing)) in (
      (s.0, units, ap (λ xs. codes "\"" ++ xs ++ codes "\"") (sym s.1), whole, units_read (chars text) scalar_all),
      shown_append (codes "\"" ++ body) (codes "\"") (shown_append (codes "\"") body mark (s.0, s.1, s.2)) mark,
    )

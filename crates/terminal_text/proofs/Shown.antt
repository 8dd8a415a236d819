-- What is printed is text that a terminal shows.
use Rattle.std.proofs.Common.{ℕ, ◌≡◌, ◌%◌, ◌/◌, ◌<◌, ◌≤◌, ◌++◌, ◌∷◌, [], List, Bool, true, false, zero, suc, refl, sym, ap, ◌∙◌, arith, inl, inr, codes, cond, ◌&&◌, ◌||◌, ◌==◌, nat_lt, nat_le, not}
use Rattle.std.proofs.lemmas.Bool.{and_parts, cases_lt}
use Rattle.std.proofs.lemmas.List.Folds.{list_all-append}
use Rattle.std.proofs.lemmas.Str.{encodes-IsAscii, encodes-append}
use Rattle.std.specs.Char.{encode_utf8}
use Rattle.std.specs.Fmt.{decimal, digit_glyph, digits, digits_onto}
use Rattle.std.specs.List.{flat_map, list_all}
use Rattle.std.specs.Str.{IsAscii, chars, encode_utf8_all}
use Rattle.std.proofs.Common.{append-nil, take, length}
use Rattle.ucd_category.proofs.GeneralCategoryLemmas.{general_category_stepped}
use Rattle.ucd_category.specs.GeneralCategory.{general_category}
use Rattle.ucd_derived.proofs.BinaryLemmas.{is_default_ignorable_code_point_stepped}
use Rattle.ucd_derived.specs.Binary.{is_default_ignorable_code_point}
use Rattle.ucd_table.proofs.Computing.{tables}
use Rattle.ucd_table.proofs.Facts.{Stepped-below}
use Rattle.ucd_table.proofs.Stepped.{Stepped, zip_stepped}
use Rattle.terminal_text.specs.Printable.{IsShown, PrintedIsShown, is_printable, is_shown, printed_char, printed_count, printed_front, quoted}

-- ---- Characters of ASCII

unfoldable is_printable_stepped : Stepped is_printable
unfolding is_shown general_category_stepped is_default_ignorable_code_point_stepped
is_printable_stepped = zip_stepped (λ category left_out. is_shown category && not left_out) general_category is_default_ignorable_code_point
    general_category_stepped is_default_ignorable_code_point_stepped

-- from the space to the tilde
abbrev pub is_plain : ℕ → Bool
is_plain c = nat_le 32 c && nat_le c 126

unplain_or_printable : (c : ℕ) → c < 128 → (not (is_plain c) || is_printable c) ≡ true
unfolding tables is_printable_stepped is_shown
unplain_or_printable c h = Stepped-below is_printable is_printable_stepped (λ x v. not (is_plain x) || v) 128 refl c h

pub below_127 : (c : ℕ) → nat_le c 126 ≡ true → c < 128
below_127 c h = grind (arith, h)

pub plain_printable : (c : ℕ) → is_plain c ≡ true → is_printable c ≡ true
plain_printable c h =
    let parts = and_parts (nat_le 32 c) (nat_le c 126) h in
    let either = unplain_or_printable c (below_127 c parts.1) in
    sym (ap (λ b. not b || is_printable c) h) ∙ either

high_or_unprintable : (c : ℕ) → c < 128 → (not (is_printable c) || nat_le 32 c) ≡ true
unfolding tables is_printable_stepped is_shown
high_or_unprintable c h = Stepped-below is_printable is_printable_stepped (λ x v. not v || nat_le 32 x) 128 refl c h

-- no character below the space is printable
pub printable_high : (c : ℕ) → is_printable c ≡ true → 32 ≤ c
printable_high c h = elim (cases_lt c 32) [
  | inl low ↦
      let below : c < 128 = omega arith in
      let e : nat_le 32 c ≡ true = sym (ap (λ v. not v || nat_le 32 c) h) ∙ high_or_unprintable c below in
      grind (arith, e)
  | inr high ↦ high
]

pub one_ascii : (c : ℕ) → c < 128 → IsAscii (c ∷ [])
one_ascii c h zero = h
one_ascii c h (suc i) = omega arith

-- ---- Text

pub shown_nil : IsShown []
shown_nil = ([], refl, refl)

pub shown_append : (xs ys : List ℕ) → IsShown xs → IsShown ys → IsShown (xs ++ ys)
shown_append xs ys a b = (
  a.0 ++ b.0,
  encodes-append a.0 b.0 ∙ ap (λ zs. zs ++ encode_utf8_all b.0) a.1 ∙ ap (λ zs. xs ++ zs) b.1,
  list_all-append is_printable a.0 b.0 ∙ ap (λ p. p && list_all is_printable b.0) a.2 ∙ b.2,
)

shown_plain_char : (c : ℕ) → is_plain c ≡ true → IsShown (c ∷ [])
shown_plain_char c h = (
  c ∷ [],
  encodes-IsAscii (c ∷ []) (one_ascii c (below_127 c (and_parts (nat_le 32 c) (nat_le c 126) h).1)),
  ap (λ p. p && true) (plain_printable c h),
)

pub shown_plain : (cs : List ℕ) → list_all is_plain cs ≡ true → IsShown cs
shown_plain [] h = shown_nil
shown_plain (c ∷ cs) h =
    let parts = and_parts (is_plain c) (list_all is_plain cs) h in
    shown_append (c ∷ []) cs (shown_plain_char c parts.0) (shown_plain cs parts.1)

shown_each : (f : ℕ → List ℕ) → ((c : ℕ) → IsShown (f c)) → (cs : List ℕ) → IsShown (flat_map f cs)
shown_each f h [] = shown_nil
shown_each f h (c ∷ cs) = shown_append (f c) (flat_map f cs) (h c) (shown_each f h cs)

-- ---- Digits

pub glyph_plain : (d : ℕ) → d < 16 → is_plain (digit_glyph false d) ≡ true
glyph_plain d h = elim (cases_lt d 10) [
  | inl low ↦ grind (arith, low)
  | inr high ↦ grind (arith, high)
]

either_plain : (first : Bool) (xs ys : List ℕ) → list_all is_plain xs ≡ true → list_all is_plain ys ≡ true → list_all is_plain (cond first xs ys) ≡ true
either_plain true xs ys h k = h
either_plain false xs ys h k = k

digits_plain : (k base n : ℕ) (acc : List ℕ) → ((m : ℕ) → is_plain (digit_glyph false (m % base)) ≡ true) → list_all is_plain acc ≡ true
    → list_all is_plain (digits_onto k base false n acc) ≡ true
digits_plain zero base n acc glyph h = h
digits_plain (suc k) base n acc glyph h =
    let more : list_all is_plain (digit_glyph false (n % base) ∷ acc) ≡ true = ap (λ p. p && list_all is_plain acc) (glyph n) ∙ h in
    either_plain (n / base == 0) (digit_glyph false (n % base) ∷ acc) (digits_onto k base false (n / base) (digit_glyph false (n % base) ∷ acc)) more
    (digits_plain k base (n / base) (digit_glyph false (n % base) ∷ acc) glyph more)

shown_hexadecimal : (c : ℕ) → IsShown (digits 16 false c)
unfolding digits
shown_hexadecimal c = shown_plain (digits 16 false c) (digits_plain 64 16 c [] (λ m. glyph_plain (m % 16) (omega arith)) refl)

shown_decimal : (n : ℕ) → IsShown (decimal n)
unfolding digits
shown_decimal n = shown_plain (decimal n) (digits_plain 64 10 n [] (λ m. glyph_plain (m % 10) (omega arith)) refl)

-- ---- What is printed

shown_escape : (c : ℕ) → IsShown (codes "\\u{" ++ digits 16 false c ++ codes "}")
shown_escape c =
    shown_append (codes "\\u{") (digits 16 false c ++ codes "}") (shown_plain (codes "\\u{") refl)
    (shown_append (digits 16 false c) (codes "}") (shown_hexadecimal c) (shown_plain (codes "}") refl))

pub shown_itself : (c : ℕ) → is_printable c ≡ true → IsShown (encode_utf8 c)
shown_itself c h = (c ∷ [], append-nil (encode_utf8 c), ap (λ p. p && true) h)

shown_if : (c : ℕ) (is quoted : Bool) → is ≡ is_printable c → IsShown (cond (is && quoted) (encode_utf8 c) (codes "\\u{" ++ digits 16 false c ++ codes "}"))
shown_if c true true is = shown_itself c (sym is)
shown_if c true false is = shown_escape c
shown_if c false quoted is = shown_escape c

shown_char : (in_quotes : Bool) (c : ℕ) → IsShown (printed_char in_quotes c)
shown_char in_quotes c = shown_if c (is_printable c) (not (in_quotes && (c == 34 || c == 92))) refl

shown_front : (in_quotes : Bool) (text : List ℕ) → IsShown (printed_front in_quotes text)
unfolding printed_front
shown_front in_quotes text = shown_each (printed_char in_quotes) (shown_char in_quotes) (take 200 (chars text))

shown_told : (many : Bool) (n : ℕ) → IsShown (cond many (codes ".. (" ++ decimal n ++ codes " characters)") [])
shown_told false n = shown_nil
shown_told true n =
    shown_append (codes ".. (") (decimal n ++ codes " characters)") (shown_plain (codes ".. (") refl)
    (shown_append (decimal n) (codes " characters)") (shown_decimal n) (shown_plain (codes " characters)") refl))

shown_count : (text : List ℕ) → IsShown (printed_count text)
unfolding printed_count
shown_count text = shown_told (nat_lt 200 (length (chars text))) (length (chars text))

pub printed_is_shown : PrintedIsShown
printed_is_shown text =
    let mark = shown_plain (codes "\"") refl in
    let count = shown_count text in (
      shown_append (printed_front false text) (printed_count text) (shown_front false text) count,
      shown_append (codes "\"" ++ printed_front true text ++ codes "\"") (printed_count text)
          (shown_append (codes "\"" ++ printed_front true text) (codes "\"") (shown_append (codes "\"") (printed_front true text) mark (shown_front true text)) mark)
          count,
    )

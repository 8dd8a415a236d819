-- A shell reads what is printed of a path.
use Rattle.std.proofs.Common.{ℕ, ◌≡◌, ◌==◌, ◌+◌, ◌/◌, ◌≤◌, ◌++◌, ◌∷◌, [], List, Bool, true, false, not, cond, Some, codes, slice_index, refl, sym, ap, ◌∙◌, inl, inr, arith, append-nil, append_assoc, ne_eqb, nat_le, nat_lt, length, subst}
use Rattle.std.proofs.lemmas.Bool.{and_parts, cases_eq, cases_lt, not-true}
use Rattle.std.proofs.lemmas.Str.{encode_ascii, encodes-chars}
use Rattle.std.specs.Char.{encode_utf8}
use Rattle.std.specs.List.{flat_map, list_all}
use Rattle.std.specs.Prelude.{option_map}
use Rattle.std.specs.Str.{chars, encode_utf8_all}
use lib.Utf8.{encode, next}
use Rattle.terminal_text.specs.Printable.{IsShown, is_printable}
use Rattle.terminal_text.specs.ShellWord.{ShellWordIsRead, outside, between, fits_in_command, path_front, shell_char, shell_word, word_read}
use Rattle.terminal_text.proofs.Shown.{shown_append, shown_itself, shown_nil, shown_plain}

-- no single quote
abbrev is_unquote : ℕ → Bool
is_unquote c = not (c == 39)

-- ---- What is read

plain_read : (xs rest word : List ℕ) → list_all is_unquote xs ≡ true → word_read between rest ≡ Some word
    → word_read between (xs ++ rest) ≡ Some (xs ++ word)
plain_read [] rest word h is = is
plain_read (x ∷ xs) rest word h is =
    let parts = and_parts (is_unquote x) (list_all is_unquote xs) h in
    let apart : (x == 39) ≡ false = not-true (x == 39) parts.0 in
    rw apart (ap (option_map (λ w. x ∷ w)) (plain_read xs rest word parts.1 is))

high_unquote : (b : ℕ) → 128 ≤ b → is_unquote b ≡ true
high_unquote b high = rw (ne_eqb b 39 (λ same. omega arith)) refl

by_size : (one two three : Bool) (c : ℕ) → 128 ≤ c
    → list_all is_unquote (cond one (c ∷ []) (cond two ((192 + c / 64) ∷ next c ∷ []) (cond three ((224 + c / 4096) ∷ next (c / 64) ∷ next c ∷ [])
    ((240 + c / 262144) ∷ next (c / 4096) ∷ next (c / 64) ∷ next c ∷ [])))) ≡ true
by_size true two three c high = rw (high_unquote c high) refl
by_size false true three c high = rw (high_unquote (192 + c / 64) (omega arith), high_unquote (next c) (omega arith)) refl
by_size false false true c high =
    rw (high_unquote (224 + c / 4096) (omega arith), high_unquote (next (c / 64)) (omega arith), high_unquote (next c) (omega arith)) refl
by_size false false false c high =
    rw (high_unquote (240 + c / 262144) (omega arith), high_unquote (next (c / 4096)) (omega arith), high_unquote (next (c / 64)) (omega arith), high_unquote (next c) (omega arith))
    refl

wide_unquote : (c : ℕ) → 128 ≤ c → list_all is_unquote (encode c) ≡ true
unfolding encode
wide_unquote c high = by_size (nat_lt c 128) (nat_lt c 2048) (nat_lt c 65536) c high

char_unquote : (c : ℕ) → (c ≡ 39 → ⊥) → list_all is_unquote (encode c) ≡ true
char_unquote c apart = elim (cases_lt c 128) [
  | inl low ↦ rw (encode_ascii c low, ne_eqb c 39 apart) refl
  | inr high ↦ wide_unquote c high
]

quote_read : (rest word : List ℕ) → word_read between rest ≡ Some word
    → word_read between (shell_char 39 ++ rest) ≡ Some (encode_utf8 39 ++ word)
quote_read rest word is = rw (encode_ascii 39 (omega arith)) (ap (option_map (λ w. 39 ∷ w)) is)

other_char : (c : ℕ) → (c ≡ 39 → ⊥) → shell_char c ≡ encode_utf8 c
other_char c apart = rw (ne_eqb c 39 apart) refl

char_read : (c : ℕ) (rest word : List ℕ) → word_read between rest ≡ Some word
    → word_read between (shell_char c ++ rest) ≡ Some (encode_utf8 c ++ word)
char_read c rest word is = elim (cases_eq c 39) [
  | inl same ↦ subst (λ n. word_read between (shell_char n ++ rest) ≡ Some (encode_utf8 n ++ word)) (sym same) (quote_read rest word is)
  | inr apart ↦ rw (other_char c apart) (plain_read (encode_utf8 c) rest word (char_unquote c apart) is)
]

chars_read : (cs rest word : List ℕ) → word_read between rest ≡ Some word
    → word_read between (flat_map shell_char cs ++ rest) ≡ Some (encode_utf8_all cs ++ word)
chars_read [] rest word is = is
chars_read (c ∷ cs) rest word is =
    ap (word_read between) (append_assoc (shell_char c) (flat_map shell_char cs) rest)
    ∙ char_read c (flat_map shell_char cs ++ rest) (encode_utf8_all cs ++ word) (chars_read cs rest word is)
    ∙ ap (λ w. Some w) (sym (append_assoc (encode_utf8 c) (encode_utf8_all cs) word))

either_unquote : (dash : Bool) → list_all is_unquote (cond dash (codes "./") []) ≡ true
either_unquote true = refl
either_unquote false = refl

front_unquote : (path : List ℕ) → list_all is_unquote (path_front path) ≡ true
front_unquote path = either_unquote (slice_index path 0 == 45)

read : (path : List ℕ) → encode_utf8_all (chars path) ≡ path → word_read outside (shell_word path) ≡ Some (path_front path ++ path)
read path is =
    let front = path_front path in
    let body = flat_map shell_char (chars path) in
    ap (word_read between) (append_assoc front body (codes "'"))
    ∙ plain_read front (body ++ codes "'") (encode_utf8_all (chars path) ++ []) (front_unquote path) (chars_read (chars path) (codes "'") [] refl)
    ∙ ap (λ w. Some (front ++ w)) (append-nil (encode_utf8_all (chars path)) ∙ is)

-- ---- What is shown

shown_char : (c : ℕ) → is_printable c ≡ true → IsShown (shell_char c)
shown_char c h = elim (cases_eq c 39) [
  | inl same ↦ subst (λ n. IsShown (shell_char n)) (sym same) (shown_plain (codes "'\\''") refl)
  | inr apart ↦ subst IsShown (sym (other_char c apart)) (shown_itself c h)
]

shown_chars : (cs : List ℕ) → list_all is_printable cs ≡ true → IsShown (flat_map shell_char cs)
shown_chars [] h = shown_nil
shown_chars (c ∷ cs) h =
    let parts = and_parts (is_printable c) (list_all is_printable cs) h in
    shown_append (shell_char c) (flat_map shell_char cs) (shown_char c parts.0) (shown_chars cs parts.1)

either_shown : (dash : Bool) → IsShown (cond dash (codes "./") [])
either_shown true = shown_plain (codes "./") refl
either_shown false = shown_nil

shown_word : (path : List ℕ) → fits_in_command path ≡ true → IsShown (shell_word path)
shown_word path fits =
    let mark = shown_plain (codes "'") refl in
    let front = path_front path in
    let body = flat_map shell_char (chars path) in
    let parts = and_parts (nat_le (length (chars path)) 200) (list_all is_printable (chars path)) fits in
    shown_append (codes "'" ++ front ++ body) (codes "'")
    (shown_append (codes "'" ++ front) body (shown_append (codes "'") front mark (either_shown (slice_index path 0 == 45))) (shown_chars (chars path) parts.1))
    mark

pub shell_word_is_read : ShellWordIsRead
shell_word_is_read path utf8 = (read path (encodes-chars path utf8), shown_word path)

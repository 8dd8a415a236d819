-- What is printed of messages of clap, and the arguments that are read.
use Rattle.std.proofs.Common.{ℕ, suc, nat_le, ◌≡◌, ◌==◌, ◌+◌, ◌<◌, ◌≤◌, ◌&&◌, ◌||◌, ◌++◌, ◌∷◌, [], List, Bool, true, false, not, cond, codes, map, take, drop, length, get_or, refl, sym, ap, ◌∙◌, arith, append-nil}
use Rattle.std.proofs.lemmas.Bool.{and_parts}
use Rattle.std.proofs.lemmas.List.{drop_all, drop_more}
use Rattle.std.proofs.lemmas.List.Folds.{list_all-append}
use Rattle.std.proofs.lemmas.Str.{encodes-IsAscii, encodes-append}
use Rattle.std.specs.Char.{encode_utf8}
use Rattle.std.specs.List.{flat_map, list_all, list_any, prefix_len}
use Rattle.std.specs.Str.{bytes_eq, chars, encode_utf8_all}
use Rattle.terminal_text.specs.Arguments.{WithoutValuesIsText, is_before_end, is_password_given, is_text, names_argument, names_value, no_value, takes_password, text_char, too_many, without_values}
use Rattle.terminal_text.specs.Printable.{is_printable}
use Rattle.terminal_text.proofs.Shown.{is_plain, plain_printable, one_ascii, below_127}

-- ---- Text

-- the octets are characters of a text
abbrev IsText : List ℕ → Type 0
IsText octets = (cs : List ℕ) × (encode_utf8_all cs ≡ octets) × (list_all is_text cs ≡ true)

text_append : (xs ys : List ℕ) → IsText xs → IsText ys → IsText (xs ++ ys)
text_append xs ys a b = (
  a.0 ++ b.0,
  encodes-append a.0 b.0 ∙ ap (λ zs. zs ++ encode_utf8_all b.0) a.1 ∙ ap (λ zs. xs ++ zs) b.1,
  list_all-append is_text a.0 b.0 ∙ ap (λ p. p && list_all is_text b.0) a.2 ∙ b.2,
)

question_text : is_text 63 ≡ true
question_text = plain_printable 63 refl

kept : (c : ℕ) (t : Bool) → t ≡ is_text c → is_text (cond t c 63) ≡ true
kept c true is = sym is
kept c false is = question_text

text_one : (c : ℕ) → IsText (encode_utf8 (text_char c))
text_one c = (text_char c ∷ [], append-nil (encode_utf8 (text_char c)), ap (λ p. p && true) (kept c (is_text c) refl))

text_chars : (cs : List ℕ) → IsText (flat_map (λ c. encode_utf8 (text_char c)) cs)
text_chars [] = ([], refl, refl)
text_chars (c ∷ cs) = text_append (encode_utf8 (text_char c)) (flat_map (λ d. encode_utf8 (text_char d)) cs) (text_one c) (text_chars cs)

plain_text : (c : ℕ) → is_plain c ≡ true → is_text c ≡ true
plain_text c h = or_last (c == 10) (is_printable c) (plain_printable c h)
  where
    or_last : (x y : Bool) → y ≡ true → (x || y) ≡ true
    or_last true y h = refl
    or_last false y h = h

text_plain : (cs : List ℕ) → list_all is_plain cs ≡ true → IsText cs
text_plain [] h = ([], refl, refl)
text_plain (c ∷ cs) h =
    let parts = and_parts (is_plain c) (list_all is_plain cs) h in
    let small = and_parts (nat_le 32 c) (nat_le c 126) parts.0 in
    text_append (c ∷ []) cs (c ∷ [], encodes-IsAscii (c ∷ []) (one_ascii c (below_127 c small.1)), ap (λ p. p && true) (plain_text c parts.0)) (text_plain cs parts.1)

either_text : (first second : Bool) (cs : List ℕ) → IsText (cond first too_many (cond second no_value (flat_map (λ c. encode_utf8 (text_char c)) cs)))
either_text true second cs = text_plain too_many refl
either_text false true cs = text_plain no_value refl
either_text false false cs = text_chars cs

pub without_values_is_text : WithoutValuesIsText
unfolding without_values
without_values_is_text message = either_text (names_argument message) (names_value message) (chars message)

-- ---- Messages

-- the characters of a message as they are printed
abbrev pub shown_message : List ℕ → List ℕ
shown_message message = flat_map (λ c. encode_utf8 (text_char c)) (chars message)

pub argument_left_out : (message : List ℕ) → names_argument message ≡ true → too_many ≡ without_values message
unfolding without_values
argument_left_out message is = sym (ap (λ t. cond t too_many (cond (names_value message) no_value (shown_message message))) is)

pub value_left_out : (message : List ℕ) → names_argument message ≡ false → names_value message ≡ true → no_value ≡ without_values message
unfolding without_values
value_left_out message other is =
    sym (ap (λ t. cond t too_many (cond (names_value message) no_value (shown_message message))) other
    ∙ ap (λ t. cond t no_value (shown_message message)) is)

pub message_shown : (message : List ℕ) → names_argument message ≡ false → names_value message ≡ false
    → shown_message message ≡ without_values message
unfolding without_values
message_shown message other is =
    sym (ap (λ t. cond t too_many (cond (names_value message) no_value (shown_message message))) other
    ∙ ap (λ t. cond t no_value (shown_message message)) is)

-- ---- Arguments

by_end : (ends : Bool) (a : List ℕ) (more : List (List ℕ)) (n : ℕ)
    → list_any takes_password (take (cond (not ends) (1 + n) 0) (a ∷ more)) ≡ cond ends false (takes_password a || list_any takes_password (take n more))
by_end true a more n = refl
by_end false a more n = let one : 1 + n ≡ suc n = omega arith in rw one refl

-- the first argument and those after it
given_cons : (a : List ℕ) (more : List (List ℕ))
    → is_password_given (a ∷ more) ≡ cond (bytes_eq a (codes "--")) false (takes_password a || is_password_given more)
unfolding is_password_given
given_cons a more = by_end (bytes_eq a (codes "--")) a more (prefix_len is_before_end more)

given_nil : is_password_given [] ≡ false
unfolding is_password_given
given_nil = refl

-- what is known at the argument of number i
given_at : {X : Type 0} (f : X → List ℕ) (xs : List X) (i : ℕ) (x : X) → i < length xs → x ≡ get_or xs i x
    → is_password_given (map f (drop i xs)) ≡ cond (bytes_eq (f x) (codes "--")) false (takes_password (f x) || is_password_given (map f (drop (i + 1) xs)))
given_at f xs i x h is =
    ap (λ ys. is_password_given (map f ys)) (drop_more xs i x h ∙ ap (λ y. y ∷ drop (i + 1) xs) (sym is)) ∙ given_cons (f x) (map f (drop (i + 1) xs))

pub given_more : {X : Type 0} (f : X → List ℕ) (xs : List X) (i : ℕ) (x : X) → i < length xs → x ≡ get_or xs i x
    → bytes_eq (f x) (codes "--") ≡ false → takes_password (f x) ≡ false
    → is_password_given (map f (drop (i + 1) xs)) ≡ is_password_given (map f (drop i xs))
given_more f xs i x h is before other =
    sym (given_at f xs i x h is ∙ ap (λ t. cond t false (takes_password (f x) || is_password_given (map f (drop (i + 1) xs)))) before
    ∙ ap (λ t. t || is_password_given (map f (drop (i + 1) xs))) other)

pub given_end : {X : Type 0} (f : X → List ℕ) (xs : List X) (i : ℕ) (x : X) → i < length xs → x ≡ get_or xs i x
    → bytes_eq (f x) (codes "--") ≡ true → is_password_given (map f (drop i xs)) ≡ false
given_end f xs i x h is ends =
    given_at f xs i x h is ∙ ap (λ t. cond t false (takes_password (f x) || is_password_given (map f (drop (i + 1) xs)))) ends

pub given_taken : {X : Type 0} (f : X → List ℕ) (xs : List X) (i : ℕ) (x : X) → i < length xs → x ≡ get_or xs i x
    → bytes_eq (f x) (codes "--") ≡ false → takes_password (f x) ≡ true → is_password_given (map f (drop i xs)) ≡ true
given_taken f xs i x h is before takes =
    given_at f xs i x h is ∙ ap (λ t. cond t false (takes_password (f x) || is_password_given (map f (drop (i + 1) xs)))) before
    ∙ ap (λ t. t || is_password_given (map f (drop (i + 1) xs))) takes

pub given_all : {X : Type 0} (f : X → List ℕ) (xs : List X) (i : ℕ) → length xs ≤ i → is_password_given (map f (drop i xs)) ≡ false
given_all f xs i h = ap (λ ys. is_password_given (map f ys)) (drop_all i xs h) ∙ given_nil

-- Text as it is printed.
use Rattle.std.proofs.Common.{ℕ, ◌≡◌, ◌+◌, ◌<◌, ◌≤◌, ◌++◌, ◌∷◌, [], List, Bool, true, false, get_or, length, take, drop, refl, sym, ap, ◌∙◌, arith, append-nil}
use Rattle.std.specs.Prelude.{codes, nat_lt}
use Rattle.std.specs.List.{flat_map}
use Rattle.std.proofs.lemmas.Grind.{flat_map-append}
use Rattle.std.proofs.lemmas.List.{drop-drop, flat_map_more, length-drop, take_all, take_more}
use Rattle.std.proofs.Math.Seq.{take-add}
use Rattle.std.specs.Fmt.{decimal}
use Rattle.std.specs.Str.{chars}
use Rattle.terminal_text.specs.Hexadecimal.{octet_count}
use Rattle.terminal_text.specs.Printable.{printed_char, printed_count, printed_front}

-- more than 200 characters are told by their number
pub count_told : (text : List ℕ) (n : ℕ) → n ≡ length (chars text) → nat_lt 200 n ≡ true
    → codes ".. (" ++ decimal n ++ codes " characters)" ≡ printed_count text
unfolding printed_count
count_told text n is many = rw (sym is, many) refl

-- and no more are not
pub count_untold : (text : List ℕ) (n : ℕ) → n ≡ length (chars text) → nat_lt 200 n ≡ false → [] ≡ printed_count text
unfolding printed_count
count_untold text n is few = rw (sym is, few) refl

-- The next character.
pub front_more : (in_quotes : Bool) (t : List ℕ) (i c : ℕ) (rest : List ℕ) → drop i t ≡ c ∷ rest
    → flat_map (printed_char in_quotes) (take i t) ++ printed_char in_quotes c ≡ flat_map (printed_char in_quotes) (take (i + 1) t)
front_more in_quotes t i c rest is =
    let more : take (i + 1) t ≡ take i t ++ c ∷ [] = take-add i 1 t ∙ ap (λ xs. take i t ++ take 1 xs) is in
    sym (ap (flat_map (printed_char in_quotes)) more ∙ flat_map-append (printed_char in_quotes) (take i t) (c ∷ [])
    ∙ ap (λ xs. flat_map (printed_char in_quotes) (take i t) ++ xs) (append-nil (printed_char in_quotes c)))

pub rest_more : (t : List ℕ) (i c : ℕ) (rest : List ℕ) → drop i t ≡ c ∷ rest → rest ≡ drop (i + 1) t
rest_more t i c rest is = sym (sym (drop-drop 1 i t) ∙ ap (drop 1) is)

-- The front is written where no character is left, and where 200 are written.
pub front_short : (in_quotes : Bool) (text : List ℕ) (i : ℕ) → i ≤ 200 → drop i (chars text) ≡ []
    → flat_map (printed_char in_quotes) (take i (chars text)) ≡ printed_front in_quotes text
unfolding printed_front
front_short in_quotes text i few none =
    let size : length (chars text) ≤ i = omega (arith, length-drop i (chars text), ap length none) in
    ap (flat_map (printed_char in_quotes)) (take_all i (chars text) size ∙ sym (take_all 200 (chars text) (omega (arith, size, few))))

pub front_long : (in_quotes : Bool) (text : List ℕ) (i : ℕ) → i ≡ 200
    → flat_map (printed_char in_quotes) (take i (chars text)) ≡ printed_front in_quotes text
unfolding printed_front
front_long in_quotes text i is = rw is refl

-- One more of the elements of a list, each of which is written.
pub taken_more : (f : ℕ → List ℕ) (xs : List ℕ) (i : ℕ) → i < length xs
    → flat_map f (take i xs) ++ f (get_or xs i 0) ≡ flat_map f (take (i + 1) xs)
taken_more f xs i h = flat_map_more f [] (take i xs) (get_or xs i 0) ∙ ap (flat_map f) (sym (take_more xs i 0 h))

-- All of them.
pub taken_all : (f : ℕ → List ℕ) (xs : List ℕ) (i : ℕ) → length xs ≤ i → flat_map f (take i xs) ≡ flat_map f xs
taken_all f xs i h = ap (flat_map f) (take_all i xs h)

-- More than 100 octets are told by their number, and no more are not.
pub octets_told : (octets : List ℕ) (n : ℕ) → n ≡ length octets → nat_lt 100 n ≡ true
    → codes ".. (" ++ decimal n ++ codes " octets)" ≡ octet_count octets
unfolding octet_count
octets_told octets n is many = rw (sym is, many) refl

pub octets_untold : (octets : List ℕ) (n : ℕ) → n ≡ length octets → nat_lt 100 n ≡ false → [] ≡ octet_count octets
unfolding octet_count
octets_untold octets n is few = rw (sym is, few) refl

-- What is written in lines decodes to what was written
use Rattle.std.proofs.Common.{◌≡◌, ◌++◌, ◌∷◌, [], ℕ, zero, suc, ◌+◌, ◌*◌, ◌/◌, ◌%◌, refl, ◌≤◌, ◌∙◌, sym, ap, List, length, take, drop, false, arith, rules, All, slice_index, append-nil}
use Rattle.std.specs.Prelude.{◌==◌, Ok, replicate}
use Rattle.std.specs.List.{AllByRecursion}
use Rattle.std.proofs.lemmas.List.{nil_from_length, length-drop, take-append-drop}
use Rattle.std.proofs.lemmas.List.Elements.{All-nil, All-cons, All-append, All-head, All-tail, All-take, All-drop, All-replicate, filter-append}
use Rattle.base64.specs.Rfc4648.{encode_symbols, encode_group, padding_len}
use Rattle.base64.specs.Engines.{standard}
use Rattle.base64.specs.GeneralPurpose.{IsBytes, decode_of, encode_of}
use Rattle.base64.proofs.EngineFacts.{decode_of-encode_of}
use Rattle.pem_text.specs.Pem.{in_lines, is_in_line, joined, lines_of}

-- A character is no line feed.
abbrev pub IsPlain : ℕ → Type 0
IsPlain c = (c == 10) ≡ false

plain_one : (t : List ℕ) (i : ℕ) → ((i : ℕ) → IsPlain (slice_index t i)) → All IsPlain (slice_index t i ∷ [])
plain_one t i h = All-cons IsPlain (slice_index t i) [] (h i) (All-nil IsPlain)

plain_two : (t : List ℕ) (i j : ℕ) → ((i : ℕ) → IsPlain (slice_index t i)) → All IsPlain (slice_index t i ∷ slice_index t j ∷ [])
plain_two t i j h = All-cons IsPlain (slice_index t i) (slice_index t j ∷ []) (h i) (plain_one t j h)

plain_three : (t : List ℕ) (i j k : ℕ) → ((i : ℕ) → IsPlain (slice_index t i)) → All IsPlain (slice_index t i ∷ slice_index t j ∷ slice_index t k ∷ [])
plain_three t i j k h = All-cons IsPlain (slice_index t i) (slice_index t j ∷ slice_index t k ∷ []) (h i) (plain_two t j k h)

plain_four : (t : List ℕ) (i j k l : ℕ) → ((i : ℕ) → IsPlain (slice_index t i)) → All IsPlain (slice_index t i ∷ slice_index t j ∷ slice_index t k ∷ slice_index t l ∷ [])
plain_four t i j k l h = All-cons IsPlain (slice_index t i) (slice_index t j ∷ slice_index t k ∷ slice_index t l ∷ []) (h i) (plain_three t j k l h)

symbols_plain : (t m : List ℕ) → ((i : ℕ) → IsPlain (slice_index t i)) → All IsPlain (encode_symbols t m)
unfolding encode_symbols
symbols_plain t [] h = All-nil IsPlain
symbols_plain t (a ∷ []) h = plain_two t (a / 4) (a % 4 * 16) h
symbols_plain t (a ∷ b ∷ []) h = plain_three t (a / 4) (a % 4 * 16 + b / 16) (b % 16 * 4) h
symbols_plain t (a ∷ b ∷ c ∷ rest) h =
    All-append IsPlain (encode_group t a b c) (encode_symbols t rest)
    (plain_four t (a / 4) (a % 4 * 16 + b / 16) (b % 16 * 4 + c / 64) (c % 64) h)
    (symbols_plain t rest h)

index_plain : (t : List ℕ) → AllByRecursion IsPlain t → (i : ℕ) → IsPlain (slice_index t i)
index_plain [] h i = search rules
index_plain (x ∷ xs) h zero = h.0
index_plain (x ∷ xs) h (suc i) = index_plain xs h.1 i

table_plain : (i : ℕ) → IsPlain (slice_index (standard.encode_table) i)
table_plain i = index_plain (standard.encode_table) (search rules) i

-- no character of Base64 is a line feed
pub encoded_plain : (m : List ℕ) → All IsPlain (encode_of standard m)
encoded_plain m =
    All-append IsPlain (encode_symbols (standard.encode_table) m) (replicate (padding_len (length m)) 61)
    (symbols_plain (standard.encode_table) m table_plain)
    (All-replicate IsPlain (padding_len (length m)) 61 refl)

-- characters without line feeds stay
joined_plain : (cs : List ℕ) → All IsPlain cs → joined cs ≡ cs
joined_plain [] h = refl
joined_plain (c ∷ cs) h =
    rw (All-head IsPlain c cs h) (ap (λ (t : List ℕ). c ∷ t) (joined_plain cs (All-tail IsPlain c cs h)))

-- the characters of the lines are those that were put into lines
pub joined_lines : (n : ℕ) (cs : List ℕ) → length cs ≤ n → All IsPlain cs → joined (lines_of n cs) ≡ cs
unfolding lines_of
joined_lines zero cs fits plain = sym (nil_from_length cs (omega arith))
joined_lines (suc n) [] fits plain = refl
joined_lines (suc n) (c ∷ cs) fits plain =
    let line = take 64 (c ∷ cs) in
    let rest = drop 64 (c ∷ cs) in
    let shorter = length-drop 64 (c ∷ cs) in
    let first = filter-append is_in_line line (10 ∷ []) ∙ append-nil (joined line) ∙ joined_plain line (All-take IsPlain 64 (c ∷ cs) plain) in
    filter-append is_in_line (line ++ 10 ∷ []) (lines_of n rest)
    ∙ ap (λ (t : List ℕ). t ++ joined (lines_of n rest)) first
    ∙ ap (λ (t : List ℕ). line ++ t) (joined_lines n rest (omega arith) (All-drop IsPlain 64 (c ∷ cs) plain))
    ∙ take-append-drop 64 (c ∷ cs)

-- the lines of an encoding decode to what was encoded
pub lines_decode : (m : List ℕ) → IsBytes m → decode_of standard (joined (in_lines (encode_of standard m))) ≡ Ok m
lines_decode m bytes =
    ap (decode_of standard) (joined_lines (length (encode_of standard m)) (encode_of standard m) (omega arith) (encoded_plain m))
    ∙ decode_of-encode_of standard m refl bytes

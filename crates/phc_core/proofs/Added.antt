-- A parameter text with the pair `name=n` at its end.
use Rattle.std.proofs.Common.{◌≡◌, ◌≢◌, ℕ, ◌+◌, ◌<◌, ◌≤◌, ◌^◌, false, List, [], ◌∷◌, ◌++◌, length, get_or, take, drop, length-append, refl, sym, ap, ◌∙◌, arith, All}
use Rattle.std.specs.Prelude.{◌==◌, codes, decimal}
use Rattle.std.specs.List.{position_or_len}
use Rattle.std.proofs.lemmas.List.{take_at, drop_at, drop-drop, get_or_at, get_or_append_left}
use Rattle.std.proofs.lemmas.List.Sums.{position_or_len_is}
use Rattle.std.proofs.lemmas.List.Splits.{slice_split_none}
use Rattle.std.proofs.lemmas.List.Elements.{All-get_or, All-weaker, All-append, All-cons, All-from_get_or}
use Rattle.std.specs.Str.Parse.{AllDigits, digits_value}
use Rattle.std.proofs.lemmas.Str.Parse.{IsNumeralModel, numerals_by_value, tells_digits, digit_at}
use Rattle.std.proofs.lemmas.Fmt.{digits_decimal, decimal_nonempty, length-decimal-le}
use Rattle.phc_core.specs.Ident.{IsNameOctet, IsIdent}
use Rattle.phc_core.specs.Value.{IsValueOctet, IsValue}
use Rattle.phc_core.specs.ParamsString.{pieces, name_in, value_in, IsPair, IsParams, pairs_of, decimal_pair, with_pair, TakesDecimal}
use Rattle.phc_core.proofs.Pieces.{tests_false}
use Rattle.phc_core.proofs.Append.{split_push, params_push, params_first}

-- no character of a name is `=` or `,`
name_equals : (b : ℕ) → IsNameOctet b → (b == 61) ≡ false
name_equals b h = tests_false 61 b (λ e. grind (arith, h, e))

name_comma : (b : ℕ) → IsNameOctet b → (b == 44) ≡ false
name_comma b h = tests_false 44 b (λ e. grind (arith, h, e))

value_comma : (b : ℕ) → IsValueOctet b → (b == 44) ≡ false
value_comma b h = tests_false 44 b (λ e. grind (arith, h, e))

-- the first `=` comes after a name
front_at : (t v : List ℕ) (k : ℕ) → k < length t → get_or (t ++ v) k 0 ≡ get_or t k 0
front_at t v k lt = get_or_append_left t v 0 k lt

equals_at : (t v : List ℕ) → All (λ b. (b == 61) ≡ false) t → position_or_len (λ b. b == 61) (t ++ 61 ∷ v) ≡ length t
equals_at t v h =
    position_or_len_is (λ b. b == 61) (t ++ 61 ∷ v) (length t) 0 (omega (arith, length-append t (61 ∷ v)))
    (λ k lt. ap (λ b. b == 61) (front_at t (61 ∷ v) k lt) ∙ All-get_or (λ b. (b == 61) ≡ false) t k 0 lt h)
    (λ _. ap (λ b. b == 61) (get_or_at t 61 v 0 (length t) refl))

name_at : (t v : List ℕ) → All (λ b. (b == 61) ≡ false) t → name_in (t ++ 61 ∷ v) ≡ t
name_at t v h = ap (λ n. take n (t ++ 61 ∷ v)) (equals_at t v h) ∙ take_at t (61 ∷ v) (length t) refl

value_at : (t v : List ℕ) → All (λ b. (b == 61) ≡ false) t → value_in (t ++ 61 ∷ v) ≡ v
value_at t v h =
    ap (λ n. drop (n + 1) (t ++ 61 ∷ v)) (equals_at t v h)
    ∙ (sym (drop-drop 1 (length t) (t ++ 61 ∷ v)) ∙ ap (drop 1) (drop_at t (61 ∷ v) (length t) refl))

-- a number is a value
own : IsNumeralModel (AllDigits 10) (digits_value 10)
own = numerals_by_value (AllDigits 10) tells_digits

digit_octet : (b : ℕ) → 48 ≤ b → b ≤ 57 → IsValueOctet b
digit_octet b low high = grind (arith, low, high)

decimal_value : (n : ℕ) → n < 2 ^ 32 → IsValue (decimal n)
decimal_value n small =
    let wide : n < 2 ^ 64 = omega (arith, small) in
    let ten : n < 10 ^ 10 = omega (arith, small) in
    let some = decimal_nonempty n wide in
    let short : length (decimal n) ≤ 10 = length-decimal-le 10 n (omega arith) ten wide in (
      omega (arith, some),
      omega (arith, short),
      All-from_get_or IsValueOctet (decimal n) 0 (λ i lt. let d = digit_at (decimal n) i (digits_decimal own n wide) lt in digit_octet _ d.0 d.1),
    )

-- `name=n` is a pair, and has no comma
is_pair : (name : List ℕ) (n : ℕ) → IsIdent name → name ≢ codes "v" → n < 2 ^ 32 → IsPair (decimal_pair name n)
is_pair name n ident v small =
    let plain : All (λ b. (b == 61) ≡ false) name = All-weaker IsNameOctet (λ b. (b == 61) ≡ false) name_equals name ident.2 in
    let at = equals_at name (decimal n) plain in
    let left = name_at name (decimal n) plain in
    let right = value_at name (decimal n) plain in
    (omega (arith, at, length-append name (61 ∷ decimal n)), rw left ident, rw left v, rw right (decimal_value n small))

pair_plain : (name : List ℕ) (n : ℕ) → IsIdent name → n < 2 ^ 32 → All (λ b. (b == 44) ≡ false) (decimal_pair name n)
pair_plain name n ident small =
    All-append (λ b. (b == 44) ≡ false) name (61 ∷ decimal n)
    (All-weaker IsNameOctet (λ b. (b == 44) ≡ false) name_comma name ident.2)
    (All-cons (λ b. (b == 44) ≡ false) 61 (decimal n) refl
    (All-weaker IsValueOctet (λ b. (b == 44) ≡ false) value_comma (decimal n) (decimal_value n small).2))

pub name_pair : (name : List ℕ) (n : ℕ) → IsIdent name → name_in (decimal_pair name n) ≡ name
name_pair name n ident = name_at name (decimal n) (All-weaker IsNameOctet (λ b. (b == 61) ≡ false) name_equals name ident.2)

pub value_pair : (name : List ℕ) (n : ℕ) → IsIdent name → value_in (decimal_pair name n) ≡ decimal n
value_pair name n ident = value_at name (decimal n) (All-weaker IsNameOctet (λ b. (b == 61) ≡ false) name_equals name ident.2)

-- the text with the pair is a parameter text
pub params_added : (t name : List ℕ) (n : ℕ) → IsParams t → n < 2 ^ 32 → TakesDecimal t name n → IsParams (with_pair t (decimal_pair name n))
params_added [] name n h small takes =
    params_first (decimal_pair name n) (is_pair name n takes.0 takes.1 small) (pair_plain name n takes.0 small) takes.3
params_added (c ∷ cs) name n h small takes =
    params_push (c ∷ cs) (decimal_pair name n) (omega arith) h (is_pair name n takes.0 takes.1 small)
    (rw (name_pair name n takes.0) takes.2) (pair_plain name n takes.0 small) takes.3

-- its pairs are those of the text, and the new one
pairs_some : (p : List ℕ) → 0 < length p → pairs_of p ≡ pieces p
pairs_some [] h = absurd (omega (arith, h))
pairs_some (c ∷ cs) h = refl

pub pairs_added : (t name : List ℕ) (n : ℕ) → IsIdent name → n < 2 ^ 32 → pairs_of (with_pair t (decimal_pair name n)) ≡ pairs_of t ++ decimal_pair name n ∷ []
pairs_added [] name n ident small =
    pairs_some (decimal_pair name n) (omega (arith, length-append name (61 ∷ decimal n)))
    ∙ slice_split_none (λ b. b == 44) (decimal_pair name n) (pair_plain name n ident small)
pairs_added (c ∷ cs) name n ident small = split_push (c ∷ cs) (decimal_pair name n) (pair_plain name n ident small)

-- the same text, where t and the digits are what was read of them
pub line_is : (t s name d : List ℕ) (n : ℕ) → t ≡ s → d ≡ decimal n → with_pair t (name ++ 61 ∷ d) ≡ with_pair s (decimal_pair name n)
line_is t s name d n e f = ap (λ x. with_pair x (name ++ 61 ∷ d)) e ∙ ap (λ x. with_pair s (name ++ 61 ∷ x)) f

-- Numbers in decimal digits with no sign and no leading zero.
use Rattle.std.proofs.Common.{◌≡◌, ◌≢◌, ℕ, ◌^◌, ◌<◌, inl, inr, List, length, get_or, sym, ap, ◌∙◌, arith}
use Rattle.std.specs.Prelude.{Result, Ok, Err, Option, IfSome, IfNone, MatchResult, decimal}
use Rattle.std.specs.Result.{result_ok}
use Rattle.std.specs.Str.Parse.{AllDigits, digits_value, ParsesUnsigned}
use Rattle.std.proofs.lemmas.Str.Parse.{IsNumeralModel, numerals_by_value, tells_digits, parse_plain, digit_at}
use Rattle.std.proofs.lemmas.Fmt.{parse-decimal, decimal-digits_value, decimal_digit, first_decimal, digits_decimal, decimal_nonempty}
use Rattle.std.proofs.lemmas.Bool.{cases_lt}

own : IsNumeralModel (AllDigits 10) (digits_value 10)
own = numerals_by_value (AllDigits 10) tells_digits

-- What a parse of such a text gives.
pub read : {E : Type 0} (bs : List ℕ) (r : Result ℕ E) → ParsesUnsigned 64 10 bs r → get_or bs 0 0 ≢ 43 → (get_or bs 0 0 ≡ 48 → length bs ≡ 1)
    → MatchResult r (λ n. (n < 2 ^ 64) × (bs ≡ decimal n)) (λ _. (n : ℕ) → n < 2 ^ 64 → bs ≡ decimal n → ⊥)
read {E} bs (Ok n) p plain zero =
    let q = parse_plain own {E = E} 64 bs (Ok n) p plain in
    ((let e = q.1 in let h = q.0.2 in omega (arith, e, h)), sym (decimal-digits_value own bs q.0.0 q.0.1 zero q.0.2) ∙ ap decimal (sym q.1))
read {E} bs (Err e) p plain zero = λ n small is. let f : Err e ≡ Ok n = parse-decimal 64 n bs (Err e) small small is p in cc

-- No number is written with nothing, a sign or a leading zero.
pub not_empty : (bs : List ℕ) (n : ℕ) → n < 2 ^ 64 → bs ≡ decimal n → length bs ≡ 0 → ⊥
not_empty bs n small is none = omega (arith, decimal_nonempty n small, ap length is)

pub no_plus : (bs : List ℕ) (n : ℕ) → n < 2 ^ 64 → bs ≡ decimal n → 0 < length bs → get_or bs 0 0 ≡ 43 → ⊥
no_plus bs n small is some first =
    let digits : AllDigits 10 bs = rw is (digits_decimal own n small) in
    omega (arith, (digit_at bs 0 digits some).0)

pub no_zero : (bs : List ℕ) (n : ℕ) → n < 2 ^ 64 → bs ≡ decimal n → get_or bs 0 0 ≡ 48 → 1 < length bs → ⊥
no_zero bs n small is first long =
    elim (cases_lt 0 n) [
      | inl some ↦ omega (arith, first_decimal n some small, ap (λ x. get_or x 0 0) is)
      | inr none ↦
          let zero : n ≡ 0 = omega arith in
          omega (arith, ap length (is ∙ ap decimal zero ∙ decimal_digit 0 (omega arith)))
    ]

-- What `ok` of a result says.
pub some_from_ok : {T E : Type 0} (r : Result T E) (o : Option T) (P : T → Type 0) (Q : E → Type 0) → o ≡ result_ok r → MatchResult r P Q → IfSome o P
some_from_ok (Ok x) o P Q is h = rw is h
some_from_ok (Err e) o P Q is h = rw is tt

pub none_from_ok : {T E : Type 0} (r : Result T E) (o : Option T) (P : T → Type 0) (Q : Type 0) → o ≡ result_ok r → MatchResult r P (λ _. Q) → IfNone o Q
none_from_ok (Ok x) o P Q is h = rw is tt
none_from_ok (Err e) o P Q is h = rw is h

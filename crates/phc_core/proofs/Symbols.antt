-- The symbols of Base64.
use Rattle.std.proofs.Common.{◌≡◌, ◌≢◌, ℕ, zero, suc, ◌+◌, ◌*◌, ◌/◌, ◌%◌, false, List, [], ◌∷◌, length, refl, sym, ap, ◌∙◌, arith, rules, All, slice_index, ◌<◌, true}
use Rattle.std.specs.Prelude.{Ok, Err, ◌==◌, nat_lt}
use Rattle.std.specs.List.{AllByRecursion}
use Rattle.std.proofs.lemmas.Bool.Decides.{nat_tests}
use Rattle.std.proofs.lemmas.List.{append-nil}
use Rattle.base64.proofs.RoundTrip.{length-encode_symbols}
use Rattle.base64.specs.declared.decode.DecodeError.{DecodeError}
use Rattle.std.proofs.lemmas.List.Elements.{All-nil, All-cons, All-append, All-weaker}
use Rattle.base64.specs.Rfc4648.{encode_symbols, encode_group}
use Rattle.base64.specs.Engines.{standard_no_pad}
use Rattle.base64.specs.GeneralPurpose.{decode_of, IsBytes}
use Rattle.base64.proofs.EngineFacts.{decode_of-encode_of, decode_of_strict}
use Rattle.phc_core.specs.PasswordHash.{base64}

-- No symbol of Base64 is `$`, `=` or a line feed, and all are ASCII.
abbrev pub IsPlain : ℕ → Type 0
IsPlain b = (b ≢ 36) × (b ≢ 61) × (b ≢ 10) × (b < 128)

plain_one : (t : List ℕ) (i : ℕ) → ((i : ℕ) → IsPlain (slice_index t i)) → All IsPlain (slice_index t i ∷ [])
plain_one t i h = All-cons IsPlain (slice_index t i) [] (h i) (All-nil IsPlain)

plain_two : (t : List ℕ) (i j : ℕ) → ((i : ℕ) → IsPlain (slice_index t i)) → All IsPlain (slice_index t i ∷ slice_index t j ∷ [])
plain_two t i j h = All-cons IsPlain (slice_index t i) (slice_index t j ∷ []) (h i) (plain_one t j h)

plain_three : (t : List ℕ) (i j k : ℕ) → ((i : ℕ) → IsPlain (slice_index t i)) → All IsPlain (slice_index t i ∷ slice_index t j ∷ slice_index t k ∷ [])
plain_three t i j k h = All-cons IsPlain (slice_index t i) (slice_index t j ∷ slice_index t k ∷ []) (h i) (plain_two t j k h)

plain_four : (t : List ℕ) (i j k l : ℕ) → ((i : ℕ) → IsPlain (slice_index t i)) → All IsPlain (slice_index t i ∷ slice_index t j ∷ slice_index t k ∷ slice_index t l ∷ [])
plain_four t i j k l h = All-cons IsPlain (slice_index t i) (slice_index t j ∷ slice_index t k ∷ slice_index t l ∷ []) (h i) (plain_three t j k l h)

symbols_plain : (t m : List ℕ) → ((i : ℕ) → IsPlain (slice_index t i)) → All IsPlain (encode_symbols t m)
unfolding encode_symbols
symbols_plain t [] h = All-nil IsPlain
symbols_plain t (a ∷ []) h = plain_two t (a / 4) (a % 4 * 16) h
symbols_plain t (a ∷ b ∷ []) h = plain_three t (a / 4) (a % 4 * 16 + b / 16) (b % 16 * 4) h
symbols_plain t (a ∷ b ∷ c ∷ rest) h =
    All-append IsPlain (encode_group t a b c) (encode_symbols t rest)
    (plain_four t (a / 4) (a % 4 * 16 + b / 16) (b % 16 * 4 + c / 64) (c % 64) h)
    (symbols_plain t rest h)

abbrev all_plain : List ℕ → Type 0
all_plain bs = AllByRecursion (λ b. ((b == 36) ≡ false) × ((b == 61) ≡ false) × ((b == 10) ≡ false) × (nat_lt b 128 ≡ true)) bs

index_plain : (t : List ℕ) → all_plain t → (i : ℕ) → IsPlain (slice_index t i)
index_plain [] h i = ((λ e. grind (arith, nat_tests, e)), (λ e. grind (arith, nat_tests, e)), (λ e. grind (arith, nat_tests, e)), omega arith)
index_plain (x ∷ xs) h zero = (
  (λ e. grind (arith, nat_tests, e, h.0.0)),
  (λ e. grind (arith, nat_tests, e, h.0.1)),
  (λ e. grind (arith, nat_tests, e, h.0.2)),
  grind (arith, nat_tests, h.0.3),
)
index_plain (x ∷ xs) h (suc i) = index_plain xs h.1 i

table_plain : (i : ℕ) → IsPlain (slice_index (standard_no_pad.encode_table) i)
table_plain i = index_plain (standard_no_pad.encode_table) (search rules) i

pub base64_plain : (m : List ℕ) → All IsPlain (base64 m)
base64_plain m = All-append IsPlain (encode_symbols (standard_no_pad.encode_table) m) [] (symbols_plain (standard_no_pad.encode_table) m table_plain) (All-nil IsPlain)

pub base64_no_dollar : (m : List ℕ) → All (λ b. b ≢ 36) (base64 m)
base64_no_dollar m = All-weaker IsPlain (λ b. b ≢ 36) (λ b h. h.0) (base64 m) (base64_plain m)

pub base64_same : (a b : List ℕ) → IsBytes a → IsBytes b → base64 a ≡ base64 b → a ≡ b
base64_same a b ha hb e =
    let p = decode_of-encode_of standard_no_pad a refl ha in
    let q = decode_of-encode_of standard_no_pad b refl hb in
    let r = ap (decode_of standard_no_pad) e in
    let k : Ok a ≡ Ok b = sym p ∙ r ∙ q in cc k

pub length-base64 : (m : List ℕ) → length (base64 m) ≡ (4 * length m + 2) / 3
length-base64 m = ap length (append-nil (encode_symbols (standard_no_pad.encode_table) m)) ∙ length-encode_symbols (standard_no_pad.encode_table) m

pub refused_none : (t : List ℕ) (e : DecodeError) → decode_of standard_no_pad t ≡ Err e → (s : List ℕ) → IsBytes s → t ≡ base64 s → ⊥
refused_none t e failed s bytes is =
    let p = decode_of-encode_of standard_no_pad s refl bytes in
    let q : Ok s ≡ Err e = sym p ∙ ap (decode_of standard_no_pad) (sym is) ∙ failed in cc q

pub decoded_is : (t d : List ℕ) → decode_of standard_no_pad t ≡ Ok d → (s : List ℕ) → IsBytes s → t ≡ base64 s → s ≡ d
decoded_is t d gives s bytes is =
    let p = decode_of-encode_of standard_no_pad s refl bytes in
    let q : Ok s ≡ Ok d = sym p ∙ ap (decode_of standard_no_pad) (sym is) ∙ gives in cc q

pub decoded_text : (t d : List ℕ) → IsBytes t → decode_of standard_no_pad t ≡ Ok d → t ≡ base64 d
decoded_text t d bytes is = decode_of_strict standard_no_pad t d (refl, refl) bytes is

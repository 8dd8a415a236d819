-- A text is one line of ASCII.
use Rattle.std.proofs.Common.{◌≡◌, ◌≢◌, ℕ, ◌<◌, ◌^◌, List, [], ◌∷◌, ◌++◌, length, arith, All}
use Rattle.std.specs.Prelude.{Option, Some, None, IfSome, decimal, ◌==◌}
use Rattle.std.specs.List.{AllByRecursion, join_with_byte}
use Rattle.std.proofs.lemmas.Str.Parse.{digit_at}
use Rattle.std.proofs.lemmas.Fmt.{digits_decimal}
use Rattle.std.proofs.lemmas.List.Elements.{All-nil, All-cons, All-append, All-weaker, All-from_get_or}
use Rattle.std.proofs.lemmas.List.Splits.{join_with_byte-slice_split}
use Rattle.phc_core.specs.Ident.{IsNameOctet, IsIdent}
use Rattle.phc_core.specs.Value.{IsValueOctet}
use Rattle.phc_core.specs.ParamsString.{IsPair, ArePairs, IsParams, pieces, name_in, value_in}
use Rattle.phc_core.specs.PasswordHash.{tail, base64, hash_rest, salt_rest, params_rest, version_rest, Phc, IsOneLine}
use Rattle.phc_core.specs.declared.password_hash.PasswordHash.{PasswordHash}
use Rattle.phc_core.proofs.Symbols.{IsPlain, base64_plain}
use Rattle.phc_core.proofs.Fields.{joined_all, whole_pair, own}

abbrev IsLineOctet : ℕ → Type 0
IsLineOctet b = (b ≢ 10) × (b < 128)

name_octet : (b : ℕ) → IsNameOctet b → IsLineOctet b
name_octet b h = ((λ e. omega (arith, h, e)), omega (arith, h))

value_octet : (b : ℕ) → IsValueOctet b → IsLineOctet b
value_octet b h = ((λ e. omega (arith, h, e)), omega (arith, h))

pub ident_one_line : (t : List ℕ) → IsIdent t → IsOneLine t
ident_one_line t h = All-weaker IsNameOctet IsLineOctet name_octet t h.2

base64_one_line : (m : List ℕ) → IsOneLine (base64 m)
base64_one_line m = All-weaker IsPlain IsLineOctet (λ b h. (h.2, h.3)) (base64 m) (base64_plain m)

decimal_one_line : (n : ℕ) → n < 2 ^ 64 → IsOneLine (decimal n)
decimal_one_line n small = All-from_get_or IsLineOctet (decimal n) 0 (λ i lt. let d = digit_at (decimal n) i (digits_decimal own n small) lt in ((λ e. omega (arith, d, e)), omega (arith, d)))

at_equals : IsLineOctet 61
at_equals = ((λ e. omega (arith, e)), omega arith)

at_comma : IsLineOctet 44
at_comma = ((λ e. omega (arith, e)), omega arith)

at_dollar : IsLineOctet 36
at_dollar = ((λ e. omega (arith, e)), omega arith)

pair_one_line : (p : List ℕ) → IsPair p → IsOneLine p
pair_one_line p h =
    rw (whole_pair p h.0) (All-append IsLineOctet (name_in p) (61 ∷ value_in p) (ident_one_line (name_in p) h.1)
    (All-cons IsLineOctet 61 (value_in p) at_equals (All-weaker IsValueOctet IsLineOctet value_octet (value_in p) h.3.2)))

pairs_one_line : (ps : List (List ℕ)) → ArePairs ps → AllByRecursion (λ p. IsOneLine p) ps
pairs_one_line [] h = tt
pairs_one_line (p ∷ ps) h = (pair_one_line p h.0, pairs_one_line ps h.2)

params_one_line : (t : List ℕ) → (0 < length t → ArePairs (pieces t)) → IsOneLine t
params_one_line [] h = All-nil IsLineOctet
params_one_line (c ∷ cs) h = rw (join_with_byte-slice_split 44 (c ∷ cs)) at (joined_all IsLineOctet 44 (pieces (c ∷ cs)) at_comma (pairs_one_line (pieces (c ∷ cs)) (h (omega arith))))

behind : (f : List ℕ) (r : Option (List ℕ)) → IsOneLine f → IsOneLine (tail r) → IsOneLine (f ++ tail r)
behind f r h k = All-append IsLineOctet f (tail r) h k

tail_one_line : (r : Option (List ℕ)) → IfSome r (λ t. IsOneLine t) → IsOneLine (tail r)
tail_one_line None h = All-nil IsLineOctet
tail_one_line (Some r) h = All-cons IsLineOctet 36 r at_dollar h

hash_line : (h : Option (List ℕ)) → IsOneLine (tail (hash_rest h))
hash_line None = All-nil IsLineOctet
hash_line (Some o) = tail_one_line (Some (base64 o)) (base64_one_line o)

salt_line : (s h : Option (List ℕ)) → IsOneLine (tail (salt_rest s h))
salt_line None h = All-nil IsLineOctet
salt_line (Some s) h = tail_one_line (salt_rest (Some s) h) (behind (base64 s) (hash_rest h) (base64_one_line s) (hash_line h))

params_line : (p : List ℕ) (s h : Option (List ℕ)) → IsParams p → IsOneLine (tail (params_rest p s h))
params_line [] s h is = salt_line s h
params_line (c ∷ cs) s h is = tail_one_line (params_rest (c ∷ cs) s h) (behind (c ∷ cs) (salt_rest s h) (params_one_line (c ∷ cs) is.1) (salt_line s h))

version_line : (v : Option ℕ) (p : List ℕ) (s h : Option (List ℕ)) → IfSome v (λ n. n < 2 ^ 32) → IsParams p → IsOneLine (tail (version_rest v p s h))
version_line None p s h small is = params_line p s h is
version_line (Some n) p s h small is =
    tail_one_line (version_rest (Some n) p s h) (behind (118 ∷ 61 ∷ decimal n) (params_rest p s h)
    (All-cons IsLineOctet 118 (61 ∷ decimal n) ((λ e. omega (arith, e)), omega arith) (All-cons IsLineOctet 61 (decimal n) at_equals (decimal_one_line n (omega (arith, small)))))
    (params_line p s h is))

pub phc_one_line : (t : List ℕ) (h : PasswordHash) → Phc t h → IsOneLine t
phc_one_line t h is =
    rw is.text (All-cons IsLineOctet 36 (h.algorithm ++ tail (version_rest h.version h.params h.salt h.hash)) at_dollar
    (behind h.algorithm (version_rest h.version h.params h.salt h.hash) (ident_one_line h.algorithm is.algorithm) (version_line h.version h.params h.salt h.hash is.version is.params)))

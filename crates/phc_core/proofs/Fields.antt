-- Fields of a text, and what they cannot hold.
use Rattle.std.proofs.Common.{◌≡◌, ◌≢◌, ℕ, ◌^◌, ◌<◌, ◌⊎◌, inl, inr, List, [], ◌∷◌, ◌++◌, length, refl, sym, ap, ◌∙◌, arith, All}
use Rattle.std.specs.Prelude.{Option, Some, None, IfSome, decimal, ◌==◌}
use Rattle.std.specs.List.{AllByRecursion, slice_split, position_or_len, join_with_byte}
use Rattle.std.specs.Str.Parse.{AllDigits, digits_value}
use Rattle.std.proofs.lemmas.Str.Parse.{IsNumeralModel, numerals_by_value, tells_digits, digit_at}
use Rattle.std.proofs.lemmas.Fmt.{digits_decimal}
use Rattle.std.proofs.lemmas.List.Elements.{All-nil, All-cons, All-head, All-tail, All-append, All-weaker, All-from_get_or}
use Rattle.std.proofs.lemmas.List.Splits.{join_with_byte-slice_split, slice_split_first, length-slice_split}
use Rattle.phc_core.specs.Ident.{IsNameOctet, IsIdent}
use Rattle.phc_core.specs.Value.{IsValueOctet}
use Rattle.phc_core.specs.ParamsString.{IsPair, ArePairs, IsParams, pieces, name_in, value_in}
use Rattle.phc_core.specs.Salt.{IsSalt}
use Rattle.phc_core.specs.PasswordHash.{tail, base64, hash_rest, salt_rest}
use Rattle.phc_core.specs.Remainders.{HashRest, SaltRest, ParamsRest, Cuts}
use Rattle.phc_core.proofs.Symbols.{IsPlain, base64_plain, base64_no_dollar}

-- Two cuts of one text are one cut.
pub cut_same : (f g : List ℕ) (r s : Option (List ℕ)) → All (λ b. b ≢ 36) f → All (λ b. b ≢ 36) g → f ++ tail r ≡ g ++ tail s → (f ≡ g) × (r ≡ s)
cut_same [] [] None None hf hg e = (refl, refl)
cut_same [] [] None (Some s) hf hg e = cc e
cut_same [] [] (Some r) None hf hg e = cc e
cut_same [] [] (Some r) (Some s) hf hg e = (refl, cc e)
cut_same [] (y ∷ g) None s hf hg e = cc e
cut_same [] (y ∷ g) (Some r) s hf hg e = absurd (All-head (λ b. b ≢ 36) y g hg (cc e))
cut_same (x ∷ f) [] r None hf hg e = cc e
cut_same (x ∷ f) [] r (Some s) hf hg e = absurd (All-head (λ b. b ≢ 36) x f hf (cc e))
cut_same (x ∷ f) (y ∷ g) r s hf hg e =
    let h = cut_same f g r s (All-tail (λ b. b ≢ 36) x f hf) (All-tail (λ b. b ≢ 36) y g hg) (cc e) in
    let first : x ≡ y = cc e in
    ((let k = h.0 in cc (first, k)), h.1)

name_octet : (b : ℕ) → IsNameOctet b → b ≢ 36
name_octet b h = λ e. grind (arith, h, e)

pub ident_no_dollar : (t : List ℕ) → IsIdent t → All (λ b. b ≢ 36) t
ident_no_dollar t h = All-weaker IsNameOctet (λ b. b ≢ 36) name_octet t h.2

pub own : IsNumeralModel (AllDigits 10) (digits_value 10)
own = numerals_by_value (AllDigits 10) tells_digits

pub decimal_no_dollar : (n : ℕ) → n < 2 ^ 64 → All (λ b. b ≢ 36) (decimal n)
decimal_no_dollar n small = All-from_get_or (λ b. b ≢ 36) (decimal n) 0 (λ i lt e. omega (arith, (digit_at (decimal n) i (digits_decimal own n small) lt).0, e))

pub salt_split : (t f : List ℕ) (r s h : Option (List ℕ)) → Cuts t f r → SaltRest (Some t) (s, h)
    → IfSome s (λ o. IsSalt o × (f ≡ base64 o)) × (s ≢ None) × HashRest r h
salt_split t f r None h cut v = let e = v.3 in cc e
salt_split t f r (Some s) h cut v =
    let e : t ≡ base64 s ++ tail (hash_rest h) = let k = v.3 in cc k in
    let same = cut_same f (base64 s) r (hash_rest h) cut.1 (base64_no_dollar s) (sym cut.0 ∙ e) in
    ((v.0, same.0), (λ k. cc k), (v.1, same.1))

no_equals : (b : ℕ) → IsPlain b → b ≢ 61
no_equals b h = h.1

plain_field : (f : List ℕ) (s : Option (List ℕ)) → IfSome s (λ o. IsSalt o × (f ≡ base64 o)) → s ≢ None → All (λ b. b ≢ 61) f
plain_field f None h some = absurd (some refl)
plain_field f (Some o) h some = rw h.1 (All-weaker IsPlain (λ b. b ≢ 61) no_equals (base64 o) (base64_plain o))

-- `$` is in no parameter text.
value_octet : (b : ℕ) → IsValueOctet b → b ≢ 36
value_octet b h = λ e. grind (arith, h, e)

join_cons : (c : ℕ) (x : List ℕ) (ps : List (List ℕ)) → 0 < length ps → join_with_byte c (x ∷ ps) ≡ x ++ (c ∷ join_with_byte c ps)
join_cons c x [] h = absurd (omega (arith, h))
join_cons c x (y ∷ ys) h = refl

pub whole_pair : (p : List ℕ) → position_or_len (λ b. b == 61) p < length p → p ≡ name_in p ++ (61 ∷ value_in p)
whole_pair p h =
    let split = slice_split_first (λ b. b == 61) p 0 h in
    let one = join_with_byte-slice_split 61 p in
    let rest = join_with_byte-slice_split 61 (value_in p) in
    let some : 0 < length (slice_split (λ b. b == 61) (value_in p)) = (let n = length-slice_split (λ b. b == 61) (value_in p) in omega (arith, n)) in
    sym one ∙ ap (join_with_byte 61) split ∙ join_cons 61 (name_in p) (slice_split (λ b. b == 61) (value_in p)) some ∙ ap (λ t. name_in p ++ (61 ∷ t)) rest

pair_no_dollar : (p : List ℕ) → IsPair p → All (λ b. b ≢ 36) p
pair_no_dollar p h =
    rw (whole_pair p h.0) (All-append (λ b. b ≢ 36) (name_in p) (61 ∷ value_in p) (ident_no_dollar (name_in p) h.1)
    (All-cons (λ b. b ≢ 36) 61 (value_in p) (λ e. omega (arith, e)) (All-weaker IsValueOctet (λ b. b ≢ 36) value_octet (value_in p) h.3.2)))

pub joined_all : (P : ℕ → Type 0) (c : ℕ) (ps : List (List ℕ)) → P c → AllByRecursion (λ p. All P p) ps → All P (join_with_byte c ps)
joined_all P c [] pc h = All-nil P
joined_all P c (p ∷ []) pc h = h.0
joined_all P c (p ∷ q ∷ ps) pc h =
    All-append P p (c ∷ join_with_byte c (q ∷ ps)) h.0 (All-cons P c (join_with_byte c (q ∷ ps)) pc (joined_all P c (q ∷ ps) pc h.1))

pairs_no_dollar : (ps : List (List ℕ)) → ArePairs ps → AllByRecursion (λ p. All (λ b. b ≢ 36) p) ps
pairs_no_dollar [] h = tt
pairs_no_dollar (p ∷ ps) h = (pair_no_dollar p h.0, pairs_no_dollar ps h.2)

comma_no_dollar : ◌≢◌ {A = ℕ} 44 36
comma_no_dollar e = omega (arith, e)

pub params_no_dollar : (t : List ℕ) → IsParams t → 0 < length t → All (λ b. b ≢ 36) t
params_no_dollar t h some = rw (join_with_byte-slice_split 44 t) at (joined_all (λ b. b ≢ 36) 44 (pieces t) comma_no_dollar (pairs_no_dollar (pieces t) (h.1 some)))

pub params_split : (t f p : List ℕ) (r s h : Option (List ℕ)) → Cuts t f r → ParamsRest (Some t) (p, s, h)
    → ((p ≡ []) × SaltRest (Some t) (s, h) × All (λ b. b ≢ 61) f) ⊎ ((f ≡ p) × IsParams f × (0 < length f) × SaltRest r (s, h))
params_split t f [] r s h cut v =
    let salt = salt_split t f r s h cut (v.1, v.2, v.3, v.4) in
    inl (refl, (v.1, v.2, v.3, v.4), plain_field f s salt.0 salt.1)
params_split t f (c ∷ cs) r s h cut v =
    let e : t ≡ (c ∷ cs) ++ tail (salt_rest s h) = let k = v.4 in cc k in
    let same = cut_same f (c ∷ cs) r (salt_rest s h) cut.1 (params_no_dollar (c ∷ cs) v.0 (omega arith)) (sym cut.0 ∙ e) in
    inr (same.0, rw same.0 v.0, rw same.0 (omega arith), (v.1, v.2, v.3, same.1))

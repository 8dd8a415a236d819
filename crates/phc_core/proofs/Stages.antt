-- When a remainder has no value.
use Rattle.std.proofs.Common.{◌≡◌, ◌≢◌, ℕ, ◌<◌, ◌^◌, inl, inr, List, [], ◌∷◌, ◌++◌, length, refl, sym, ap, ◌∙◌, arith, All, append_assoc}
use Rattle.std.specs.Prelude.{Option, Some, None, IfSome, decimal, ◌==◌}
use Rattle.std.specs.List.{slice_split, join_with_byte}
use Rattle.std.proofs.lemmas.List.Elements.{All-cons, All-head, All-tail}
use Rattle.std.proofs.lemmas.List.Splits.{join_with_byte-slice_split, length-slice_split}
use Rattle.phc_core.specs.Ident.{IsIdent}
use Rattle.phc_core.specs.ParamsString.{ArePairs, IsParams, pieces, name_in, value_in}
use Rattle.phc_core.specs.Salt.{IsSalt}
use Rattle.phc_core.specs.PasswordHash.{tail, base64, params_rest, version_rest, Phc}
use Rattle.phc_core.specs.Remainders.{ParamsRest, NoHashRest, NoSaltRest, NoParamsRest, NoVersionRest, Cuts}
use Rattle.phc_core.specs.declared.password_hash.PasswordHash.{PasswordHash}
use Rattle.phc_core.proofs.Fields.{cut_same, ident_no_dollar, decimal_no_dollar, salt_split, params_split, whole_pair}

salt_field_bad : (f : List ℕ) (s : Option (List ℕ)) → IfSome s (λ o. IsSalt o × (f ≡ base64 o)) → s ≢ None → ((o : List ℕ) → IsSalt o → f ≡ base64 o → ⊥) → ⊥
salt_field_bad f None h some bad = some refl
salt_field_bad f (Some o) h some bad = bad o h.0 h.1

pub no_salt : (rest : Option (List ℕ)) (t f : List ℕ) (r : Option (List ℕ)) → rest ≡ Some t → Cuts t f r → ((o : List ℕ) → IsSalt o → f ≡ base64 o → ⊥) → NoSaltRest rest
no_salt rest t f r is cut bad = λ v h.
    let k = salt_split t f r v.0 v.1 cut (rw is at h) in salt_field_bad f v.0 k.0 k.1 bad

pub no_salt_behind : (rest : Option (List ℕ)) (t f : List ℕ) (r : Option (List ℕ)) → rest ≡ Some t → Cuts t f r → NoHashRest r → NoSaltRest rest
no_salt_behind rest t f r is cut bad = λ v h.
    let k = salt_split t f r v.0 v.1 cut (rw is at h) in bad v.1 k.2

-- A parameter text has an `=`.
meets : (P : ℕ → Type 0) (c : ℕ) (xs ys : List ℕ) → All P (xs ++ (c ∷ ys)) → P c
meets P c [] ys h = All-head P c ys h
meets P c (x ∷ xs) ys h = meets P c xs ys (All-tail P x (xs ++ (c ∷ ys)) h)

meets_in : (P : ℕ → Type 0) (c : ℕ) (p n v more : List ℕ) → p ≡ n ++ (c ∷ v) → All P (p ++ more) → P c
meets_in P c p n v more e h =
    let k : p ++ more ≡ n ++ (c ∷ (v ++ more)) = ap (λ x. x ++ more) e ∙ append_assoc n (c ∷ v) more in
    meets P c n (v ++ more) (rw k at h)

meets_first : (P : ℕ → Type 0) (c d : ℕ) (p n v : List ℕ) (ps : List (List ℕ)) → p ≡ n ++ (c ∷ v) → All P (join_with_byte d (p ∷ ps)) → P c
meets_first P c d p n v [] e h = meets P c n v (rw e at h)
meets_first P c d p n v (q ∷ ps) e h = meets_in P c p n v (d ∷ join_with_byte d (q ∷ ps)) e h

pairs_meet : (ps : List (List ℕ)) → 0 < length ps → ArePairs ps → All (λ b. b ≢ 61) (join_with_byte 44 ps) → ⊥
pairs_meet [] some h all = omega (arith, some)
pairs_meet (p ∷ ps) some h all = meets_first (λ b. b ≢ 61) 61 44 p (name_in p) (value_in p) ps (whole_pair p h.0.0) all refl

pieces_some : (t : List ℕ) → 0 < length (pieces t)
pieces_some t = let n = length-slice_split (λ b. b == 44) t in omega (arith, n)

pub params_meet : (t : List ℕ) → IsParams t → 0 < length t → All (λ b. b ≢ 61) t → ⊥
params_meet t h some all =
    let joined : All (λ b. b ≢ 61) (join_with_byte 44 (pieces t)) = (rw (join_with_byte-slice_split 44 t) all) in
    pairs_meet (pieces t) (pieces_some t) (h.1 some) joined

-- A parameter text does not begin `v=`.
first_name : (ps : List (List ℕ)) (qs : List (List ℕ)) (x : List ℕ) → ps ≡ (118 ∷ 61 ∷ x) ∷ qs → ArePairs ps → ⊥
first_name [] qs x e h = cc e
first_name (p ∷ ps) qs x e h =
    let k : p ≡ 118 ∷ 61 ∷ x = cc e in h.0.2 (ap name_in k)

split_v : (parts : List (List ℕ)) (d : List ℕ) → slice_split (λ b. b == 44) d ≡ parts → 0 < length parts → ArePairs (pieces (118 ∷ 61 ∷ d)) → ⊥
split_v [] d e some h = omega (arith, some)
split_v (x ∷ qs) d e some h = first_name (pieces (118 ∷ 61 ∷ d)) qs x (rw e refl) h

no_v : (f d : List ℕ) → IsParams f → 0 < length f → f ≡ 118 ∷ 61 ∷ d → ⊥
no_v f d h some e = split_v (pieces d) d refl (pieces_some d) (rw e at (h.1 some))

plain_v : (f d : List ℕ) → All (λ b. b ≢ 61) f → f ≡ 118 ∷ 61 ∷ d → ⊥
plain_v f d h e = meets (λ b. b ≢ 61) 61 (118 ∷ []) d (rw e at h) refl

pub no_params_plain : (rest : Option (List ℕ)) (t f : List ℕ) (r : Option (List ℕ)) → rest ≡ Some t → Cuts t f r → All (λ b. b ≢ 61) f → NoSaltRest rest → NoParamsRest rest
no_params_plain rest t f r is cut plain bad = λ v h.
    elim (params_split t f v.0 r v.1 v.2 cut (rw is at h)) [
      | inl k ↦ bad (v.1, v.2) (rw is k.1)
      | inr k ↦ params_meet f k.1 k.2 plain
    ]

pub no_params_field : (rest : Option (List ℕ)) (t f : List ℕ) (r : Option (List ℕ)) → rest ≡ Some t → Cuts t f r → (All (λ b. b ≢ 61) f → ⊥) → (IsParams f → 0 < length f → ⊥) → NoParamsRest rest
no_params_field rest t f r is cut some bad = λ v h.
    elim (params_split t f v.0 r v.1 v.2 cut (rw is at h)) [
      | inl k ↦ some k.2
      | inr k ↦ bad k.1 k.2
    ]

pub no_params_behind : (rest : Option (List ℕ)) (t f : List ℕ) (r : Option (List ℕ)) → rest ≡ Some t → Cuts t f r → (All (λ b. b ≢ 61) f → ⊥) → NoSaltRest r → NoParamsRest rest
no_params_behind rest t f r is cut some bad = λ v h.
    elim (params_split t f v.0 r v.1 v.2 cut (rw is at h)) [
      | inl k ↦ some k.2
      | inr k ↦ bad (v.1, v.2) k.3
    ]

pub version_no_dollar : (n : ℕ) → n < 2 ^ 32 → All (λ b. b ≢ 36) (118 ∷ 61 ∷ decimal n)
version_no_dollar n small =
    All-cons (λ b. b ≢ 36) 118 (61 ∷ decimal n) (λ e. omega (arith, e)) (All-cons (λ b. b ≢ 36) 61 (decimal n) (λ e. omega (arith, e)) (decimal_no_dollar n (omega (arith, small))))

pub version_field : (t f p : List ℕ) (r s h : Option (List ℕ)) (n : ℕ) → Cuts t f r → n < 2 ^ 32 → t ≡ (118 ∷ 61 ∷ decimal n) ++ tail (params_rest p s h) → (f ≡ 118 ∷ 61 ∷ decimal n) × (r ≡ params_rest p s h)
version_field t f p r s h n cut small e = cut_same f (118 ∷ 61 ∷ decimal n) r (params_rest p s h) cut.1 (version_no_dollar n small) (sym cut.0 ∙ e)

pub starts_v : (rest : Option (List ℕ)) (t f d : List ℕ) (r : Option (List ℕ)) (p : List ℕ) (s h : Option (List ℕ)) → rest ≡ Some t → Cuts t f r → f ≡ 118 ∷ 61 ∷ d → ParamsRest rest (p, s, h) → ⊥
starts_v rest t f d r p s h is cut e v =
    elim (params_split t f p r s h cut (rw is at v)) [
      | inl k ↦ plain_v f d k.2 e
      | inr k ↦ no_v f d k.1 k.2 e
    ]

pub no_version_number : (rest : Option (List ℕ)) (t f d : List ℕ) (r : Option (List ℕ)) → rest ≡ Some t → Cuts t f r → f ≡ 118 ∷ 61 ∷ d → ((n : ℕ) → n < 2 ^ 32 → d ≡ decimal n → ⊥) → NoVersionRest rest
no_version_number rest t f d r is cut e bad (None, p, s, h) v = starts_v rest t f d r p s h is cut e (v.1, v.2, v.3, v.4, v.5)
no_version_number rest t f d r is cut e bad (Some n, p, s, h) v =
    let k = version_field t f p r s h n cut v.0 (let x = v.5 in let g : Some t ≡ Some ((118 ∷ 61 ∷ decimal n) ++ tail (params_rest p s h)) = sym is ∙ x in cc g) in
    bad n v.0 (let g = sym e ∙ k.0 in cc g)

pub no_version_behind : (rest : Option (List ℕ)) (t f d : List ℕ) (r : Option (List ℕ)) → rest ≡ Some t → Cuts t f r → f ≡ 118 ∷ 61 ∷ d → NoParamsRest r → NoVersionRest rest
no_version_behind rest t f d r is cut e bad (None, p, s, h) v = starts_v rest t f d r p s h is cut e (v.1, v.2, v.3, v.4, v.5)
no_version_behind rest t f d r is cut e bad (Some n, p, s, h) v =
    let k = version_field t f p r s h n cut v.0 (let x = v.5 in let g : Some t ≡ Some ((118 ∷ 61 ∷ decimal n) ++ tail (params_rest p s h)) = sym is ∙ x in cc g) in
    bad (p, s, h) (v.1, v.2, v.3, v.4, k.1)

-- The whole text.
whole_cut : (t inner id : List ℕ) (r : Option (List ℕ)) (h : PasswordHash) → t ≡ 36 ∷ inner → Cuts inner id r → Phc t h → (id ≡ h.algorithm) × (r ≡ version_rest h.version h.params h.salt h.hash)
whole_cut t inner id r h is cut v =
    let e : inner ≡ h.algorithm ++ tail (version_rest h.version h.params h.salt h.hash) = (let k = sym is ∙ v.text in cc k) in
    cut_same id h.algorithm r (version_rest h.version h.params h.salt h.hash) cut.1 (ident_no_dollar h.algorithm v.algorithm) (sym cut.0 ∙ e)

pub no_id : (t inner id : List ℕ) (r : Option (List ℕ)) → t ≡ 36 ∷ inner → Cuts inner id r → (IsIdent id → ⊥) → (h : PasswordHash) → Phc t h → ⊥
no_id t inner id r is cut bad h v = bad (rw (whole_cut t inner id r h is cut v).0 v.algorithm)

pub no_rest : (t inner id : List ℕ) (r : Option (List ℕ)) → t ≡ 36 ∷ inner → Cuts inner id r → NoVersionRest r → (h : PasswordHash) → Phc t h → ⊥
no_rest t inner id r is cut bad h v = bad (h.version, h.params, h.salt, h.hash) (v.version, v.params, v.salt, v.hash, v.salted, (whole_cut t inner id r h is cut v).1)

pub no_start : (t : List ℕ) → ((q : List ℕ) → t ≢ 36 ∷ q) → (h : PasswordHash) → Phc t h → ⊥
no_start t bad h v = bad (h.algorithm ++ tail (version_rest h.version h.params h.salt h.hash)) v.text

pub no_version_plain : (rest : Option (List ℕ)) (t f : List ℕ) (r : Option (List ℕ)) → rest ≡ Some t → Cuts t f r → ((d : List ℕ) → f ≡ 118 ∷ 61 ∷ d → ⊥) → NoParamsRest rest → NoVersionRest rest
no_version_plain rest t f r is cut plain bad (None, p, s, h) v = bad (p, s, h) (v.1, v.2, v.3, v.4, v.5)
no_version_plain rest t f r is cut plain bad (Some n, p, s, h) v =
    let k = version_field t f p r s h n cut v.0 (let e = v.5 in let g : Some t ≡ Some ((118 ∷ 61 ∷ decimal n) ++ tail (params_rest p s h)) = sym is ∙ e in cc g) in
    plain (decimal n) k.0

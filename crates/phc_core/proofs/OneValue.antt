-- One text has one value.
use Rattle.std.proofs.Common.{◌≡◌, ℕ, ◌<◌, ◌^◌, inl, inr, List, [], ◌∷◌, ◌++◌, length, refl, sym, ap, ◌∙◌, arith}
use Rattle.std.specs.Prelude.{Option, Some, None, decimal}
use Rattle.std.proofs.lemmas.Fmt.{decimal_injective}
use Rattle.phc_core.specs.ParamsString.{IsParams}
use Rattle.phc_core.specs.PasswordHash.{tail, base64, hash_rest, salt_rest, params_rest, version_rest, Phc}
use Rattle.phc_core.specs.Remainders.{HashRest, SaltRest, ParamsRest, VersionRest, Cuts}
use Rattle.phc_core.specs.declared.password_hash.PasswordHash.{PasswordHash}
use Rattle.phc_core.proofs.Symbols.{base64_no_dollar, base64_same}
use Rattle.phc_core.proofs.Fields.{cut_same, ident_no_dollar, params_no_dollar, params_split}
use Rattle.phc_core.proofs.Stages.{params_meet, starts_v, version_no_dollar}

hash_one : (r h g : Option (List ℕ)) → HashRest r h → HashRest r g → h ≡ g
hash_one r None None v w = refl
hash_one r None (Some b) v w = let e = sym v.1 ∙ w.1 in cc e
hash_one r (Some a) None v w = let e = sym v.1 ∙ w.1 in cc e
hash_one r (Some a) (Some b) v w =
    let e : Some (base64 a) ≡ Some (base64 b) = sym v.1 ∙ w.1 in
    let k : a ≡ b = base64_same a b v.0.2 w.0.2 (cc e) in ap Some k

salt_one : (r s h t g : Option (List ℕ)) → SaltRest r (s, h) → SaltRest r (t, g) → (s ≡ t) × (h ≡ g)
salt_one r None h None g v w = (refl, v.2 ∙ sym w.2)
salt_one r None h (Some b) g v w = let e = sym v.3 ∙ w.3 in cc e
salt_one r (Some a) h None g v w = let e = sym v.3 ∙ w.3 in cc e
salt_one r (Some a) h (Some b) g v w =
    let e : Some (base64 a ++ tail (hash_rest h)) ≡ Some (base64 b ++ tail (hash_rest g)) = sym v.3 ∙ w.3 in
    let k = cut_same (base64 a) (base64 b) (hash_rest h) (hash_rest g) (base64_no_dollar a) (base64_no_dollar b) (cc e) in
    let same : a ≡ b = base64_same a b v.0.2 w.0.2 k.0 in
    (ap Some same, hash_one (hash_rest h) h g (v.1, refl) (w.1, k.1))

pub some_cut : (p : List ℕ) (s h : Option (List ℕ)) → IsParams p → 0 < length p → Cuts (p ++ tail (salt_rest s h)) p (salt_rest s h)
some_cut p s h is some = (refl, params_no_dollar p is some)

params_one : (r : Option (List ℕ)) (p : List ℕ) (s h : Option (List ℕ)) (q : List ℕ) (t g : Option (List ℕ)) → ParamsRest r (p, s, h) → ParamsRest r (q, t, g) → (p ≡ q) × (s ≡ t) × (h ≡ g)
params_one r [] s h [] t g v w =
    let k = salt_one r s h t g (v.1, v.2, v.3, v.4) (w.1, w.2, w.3, w.4) in (refl, k.0, k.1)
params_one r [] s h (c ∷ cs) t g v w =
    elim (params_split ((c ∷ cs) ++ tail (salt_rest t g)) (c ∷ cs) [] (salt_rest t g) s h (some_cut (c ∷ cs) t g w.0 (omega arith)) (v.0, v.1, v.2, v.3, sym w.4 ∙ v.4)) [
      | inl k ↦ absurd (params_meet (c ∷ cs) w.0 (omega arith) k.2)
      | inr k ↦ (let e = k.0 in cc e)
    ]
params_one r (c ∷ cs) s h q t g v w =
    elim (params_split ((c ∷ cs) ++ tail (salt_rest s h)) (c ∷ cs) q (salt_rest s h) t g (some_cut (c ∷ cs) s h v.0 (omega arith)) (w.0, w.1, w.2, w.3, sym v.4 ∙ w.4)) [
      | inl k ↦ absurd (params_meet (c ∷ cs) v.0 (omega arith) k.2)
      | inr k ↦ (let m = salt_one (salt_rest s h) s h t g (v.1, v.2, v.3, refl) k.3 in (k.0, m.0, m.1))
    ]

number_first : (r : Option (List ℕ)) (n : ℕ) (p : List ℕ) (s h : Option (List ℕ)) (q : List ℕ) (t g : Option (List ℕ)) → n < 2 ^ 32 → r ≡ version_rest (Some n) p s h → ParamsRest r (q, t, g) → ⊥
number_first r n p s h q t g small e w =
    starts_v r ((118 ∷ 61 ∷ decimal n) ++ tail (params_rest p s h)) (118 ∷ 61 ∷ decimal n) (decimal n) (params_rest p s h) q t g e (refl, version_no_dollar n small) refl w

version_one : (r : Option (List ℕ)) (n : Option ℕ) (p : List ℕ) (s h : Option (List ℕ)) (m : Option ℕ) (q : List ℕ) (t g : Option (List ℕ)) → VersionRest r (n, p, s, h) → VersionRest r (m, q, t, g) → (n ≡ m) × (p ≡ q) × (s ≡ t) × (h ≡ g)
version_one r None p s h None q t g v w =
    let k = params_one r p s h q t g (v.1, v.2, v.3, v.4, v.5) (w.1, w.2, w.3, w.4, w.5) in (refl, k.0, k.1, k.2)
version_one r None p s h (Some m) q t g v w = absurd (number_first r m q t g p s h w.0 w.5 (v.1, v.2, v.3, v.4, v.5))
version_one r (Some n) p s h None q t g v w = absurd (number_first r n p s h q t g v.0 v.5 (w.1, w.2, w.3, w.4, w.5))
version_one r (Some n) p s h (Some m) q t g v w =
    let e : Some ((118 ∷ 61 ∷ decimal n) ++ tail (params_rest p s h)) ≡ Some ((118 ∷ 61 ∷ decimal m) ++ tail (params_rest q t g)) = sym v.5 ∙ w.5 in
    let k = cut_same (118 ∷ 61 ∷ decimal n) (118 ∷ 61 ∷ decimal m) (params_rest p s h) (params_rest q t g) (version_no_dollar n v.0) (version_no_dollar m w.0) (cc e) in
    let same : n ≡ m = decimal_injective n m (omega (arith, v.0)) (omega (arith, w.0)) (let d = k.0 in cc d) in
    let l = params_one (params_rest p s h) p s h q t g (v.1, v.2, v.3, v.4, refl) (w.1, w.2, w.3, w.4, k.1) in
    (ap Some same, l.0, l.1, l.2)

pub phc_one_value : (t : List ℕ) (h g : PasswordHash) → Phc t h → Phc t g → h ≡ g
phc_one_value t h g v w =
    let e : 36 ∷ h.algorithm ++ tail (version_rest h.version h.params h.salt h.hash) ≡ 36 ∷ g.algorithm ++ tail (version_rest g.version g.params g.salt g.hash) = sym v.text ∙ w.text in
    let k = cut_same h.algorithm g.algorithm (version_rest h.version h.params h.salt h.hash) (version_rest g.version g.params g.salt g.hash) (ident_no_dollar h.algorithm v.algorithm) (ident_no_dollar g.algorithm w.algorithm) (cc e) in
    let l = version_one (version_rest h.version h.params h.salt h.hash) h.version h.params h.salt h.hash g.version g.params g.salt g.hash
    (v.version, v.params, v.salt, v.hash, v.salted, refl) (w.version, w.params, w.salt, w.hash, w.salted, k.1) in
    let a = k.0 in let b = l.0 in let c = l.1 in let d = l.2 in let f = l.3 in
    λ i. record { algorithm = a i; version = b i; params = c i; salt = d i; hash = f i }

pub phc_one_text : (t u : List ℕ) (h : PasswordHash) → Phc t h → Phc u h → t ≡ u
phc_one_text t u h v w = v.text ∙ sym w.text

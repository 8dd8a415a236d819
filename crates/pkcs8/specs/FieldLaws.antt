-- lemmas only: nothing to believe here
-- Attributes and further fields: they are read exactly, and their tag octets tell them apart from a public key.
use Rattle.std.proofs.Common.{◌≡◌, ℕ, Bool, true, false, List, [], ◌∷◌, ◌++◌, Option, Ok, refl, sym, ap, subst, ◌∙◌, inl, inr, IsTrue, nat_eq}
use Rattle.std.proofs.lemmas.Bool.{eqb-true}
use Rattle.asn1_core.specs.Der.{el, is_tag}
use Rattle.asn1_core.specs.Reading.{where_ok, made, many}
use Rattle.asn1_core.specs.Texts.{Exact, ExactAll, Within, Many}
use Rattle.asn1_core.specs.ExactLaws.{bind_ok, where_holds, where_true, ok_is, many-exact}
use Rattle.asn1_core.specs.ElementLaws.{by_tag-exact, within-exact}
use Rattle.asn1_core.specs.FieldLaws.{el_some}
use Rattle.asn1_core.specs.OptionLaws.{OnOption, Follows}
use Rattle.pkcs8.specs.PrivateKeyInfo.{version_of, Skipped, AttributesText, is_further, FurtherText, AreFurther, skipped, attributes_at, further_at, further_of, ended_further}

one : (u v : Unit {0}) → u ≡ v
one u v = refl

pub skipped-exact : ExactAll Skipped skipped
skipped-exact = record { found = λ b v e. tt; again = λ b v r short. refl }

pub attributes-exact : Exact AttributesText attributes_at
attributes-exact = within-exact 0xa0 Skipped skipped refl skipped-exact

further-exact : Exact FurtherText further_at
further-exact = by_tag-exact is_further (λ t. Skipped) (λ t. skipped) (λ t h. skipped-exact)

further_some : (v : Unit {0}) → FurtherText [] v → ⊥
further_some v r = el_some r.0 r.1 r.5

fields-exact : ExactAll (Many FurtherText) (many further_at)
fields-exact = many-exact FurtherText further_at further-exact further_some

-- ---- the end of a private key

-- what ends one whose version has the number n and whose public key is q
abbrev pub EndedFurther : {A W : Type 0} → ℕ → Option W → A → List ℕ → A → Type 0
EndedFurther n q v b w = IsTrue (nat_eq n (version_of q)) × AreFurther b × (w ≡ v)

pub ended_further-exact : {A W : Type 0} (n : ℕ) (q : Option W) (v : A) → ExactAll (EndedFurther n q v) (ended_further n q v)
ended_further-exact {A} n q v = record {
  found = λ b w e.
      let x = bind_ok (where_ok (nat_eq n (version_of q)) v) (λ w. made (λ u. w) further_of b) w e in
      let h = where_holds (nat_eq n (version_of q)) v x.0 x.1 in
      let y = bind_ok (further_of b) (λ u. Ok x.0) w x.2 in
      let z = bind_ok (many further_at b) (λ fs. Ok tt) y.0 y.1 in
      (h.0, (z.0, fields-exact.found b z.0 z.1), sym (ok_is x.0 w y.2) ∙ sym h.1);
  again = λ b w r short. rw (where_true (nat_eq n (version_of q)) v r.0, fields-exact.again b r.1.0 r.1.1 short, r.2) refl;
}

-- ---- tag octets

-- the first octet of an element is its tag octet
first_octet : (t s : ℕ) (l w q : List ℕ) → t ∷ l ≡ el s w ++ q → t ≡ s
unfolding el
first_octet t s l w q e = cc

first_further : (t : ℕ) (l : List ℕ) (fs : List (Unit {0})) → Many FurtherText (t ∷ l) fs → IsTrue (is_tag t) × IsTrue (is_further t)
first_further t l [] r = absurd cc
first_further t l (f ∷ fs) (p, q, (s, w, ok, can, u, is), more, e) =
    let same : t ≡ s = first_octet t s l w q (e ∙ ap (λ (x : List ℕ). x ++ q) is) in
    (subst (λ (x : ℕ). IsTrue (is_tag x)) (sym same) ok, subst (λ (x : ℕ). IsTrue (is_further x)) (sym same) can)

-- octets of which one passes a test and the other does not are different
differs : (test : ℕ → Bool) (t c : ℕ) → IsTrue (test t) → test c ≡ false → nat_eq t c ≡ false
differs test t c h i = by_test (nat_eq t c) refl
  where
    by_test : (x : Bool) → nat_eq t c ≡ x → x ≡ false
    by_test true e = let same : t ≡ c = eqb-true t c e in let yes : test c ≡ true = ap test (sym same) ∙ h in absurd cc
    by_test false e = refl

-- no further field has the tag octet of a public key
pub follows_public_key : {A W : Type 0} (n : ℕ) (q : Option W) (v : A) → Follows (λ t. nat_eq t 0x81) (EndedFurther n q v)
follows_public_key n q v = λ t l w r.
    let f = first_further t l r.1.0 r.1.1 in
    (f.0, differs is_further t 0x81 f.1 refl)

-- no public key and no further field has the tag octet of attributes
pub follows_attributes : {A W : Type 0} (Q : List ℕ → W → Type 0) (n : ℕ) (v : Option W → A) → Follows (λ t. nat_eq t 0xa0) (OnOption (Within 0x81 Q) (λ q. EndedFurther n q (v q)))
follows_attributes Q n v = λ t l w r. by_case t l w r
  where
    by_case : (t : ℕ) (l : List ℕ) (w : _) → OnOption (Within 0x81 Q) (λ q. EndedFurther n q (v q)) (t ∷ l) w → IsTrue (is_tag t) × (nat_eq t 0xa0 ≡ false)
    by_case t l w (inl r) =
        let f = first_further t l r.1.0 r.1.1 in
        (f.0, differs is_further t 0xa0 f.1 refl)
    by_case t l w (inr (p, q, a, (o, k, is), r, e)) =
        let same : t ≡ 0x81 = first_octet t 0x81 l o q (e ∙ ap (λ (x : List ℕ). x ++ q) is) in
        (subst (λ (x : ℕ). IsTrue (is_tag x)) (sym same) refl, subst (λ (x : ℕ). nat_eq x 0xa0 ≡ false) (sym same) refl)

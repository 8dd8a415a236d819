-- lemmas only: nothing to believe here
-- Elements with a context tag are read exactly.
use Rattle.std.proofs.Common.{◌≡◌, ◌==◌, ℕ, ◌+◌, ◌-◌, ◌<◌, ◌%◌, List, refl, sym, ap, ◌∙◌, inl, inr, IsTrue, arith, nat_lt, nat_eq, not}
use Rattle.std.proofs.lemmas.Bool.{ltb-true, lt-ltb, eqb-true, cases_Bool}
use Rattle.asn1_core.specs.Der.{el, is_tag}
use Rattle.asn1_core.specs.Reading.{Front, whole}
use Rattle.asn1_core.specs.Texts.{Exact, Whole, ByTag}
use Rattle.asn1_core.specs.OctetLaws.{both, and_true}
use Rattle.asn1_core.specs.ExactLaws.{whole-exact, made-exact, same_front-exact}
use Rattle.asn1_core.specs.ElementLaws.{by_tag-exact}
use Rattle.der_core.specs.ContextSpecific.{context, context_at, context_of, ContextText, is_context, is_explicit, explicit}
use Rattle.der_core.specs.declared.context_specific.ContextSpecific.{ContextSpecific}
use Rattle.der_core.specs.declared.context_specific.TagMode.{TagMode}
use Rattle.der_core.specs.declared.context_specific.TagMode.TheVariants as modes

not_31 : (n : ℕ) → ((n % 32 ≡ 31) → ⊥) → IsTrue (not (n % 32 == 31))
not_31 n h =
    elim (cases_Bool (nat_eq (n % 32) 31)) [
      | inl e ↦ absurd (h (eqb-true (n % 32) 31 e))
      | inr e ↦ rw e refl
    ]

module _ {V : Type 0} (P : List ℕ → V → Type 0) (p : Front V) (exact : Exact P p) where
  abbrev ContextOf : ℕ → List ℕ → ContextSpecific V → Type 0
  ContextOf t w v = (x : V) × P w x × (v ≡ explicit t x)

  parts : Exact (ByTag is_explicit ContextOf) (context_at p)
  parts = by_tag-exact is_explicit ContextOf (context_of p) (λ t h. made-exact (explicit t) P (whole p) (whole-exact P p exact))

  to : (b : List ℕ) (v : ContextSpecific V) → ByTag is_explicit ContextOf b v → ContextText P b v
  to b v (t, w, ok, can, (x, r, is), e) =
      let h = both (nat_lt 0x9f t) (nat_lt t 0xbf) can in
      let n : 0xa0 + (t - 0xa0) ≡ t = omega (arith, ltb-true 0x9f t h.0) in
      rw is (w, r, omega (arith, ltb-true 0x9f t h.0, ltb-true t 0xbf h.1), refl, e ∙ ap (λ (k : ℕ). el k w) (sym n))

  is_tag_of : (n : ℕ) → n < 31 → IsTrue (is_tag (0xa0 + n))
  is_tag_of n h = and_true (nat_lt (0xa0 + n) 256) _ (lt-ltb (0xa0 + n) 256 (omega arith)) (not_31 (0xa0 + n) (λ e. omega arith))

  from : (b : List ℕ) (v : ContextSpecific V) → ContextText P b v → ByTag is_explicit ContextOf b v
  from b v (x, r, n, mode, e) =
      let k : 0xa0 + v.tag_number - 0xa0 ≡ v.tag_number = omega arith in
      let same : v ≡ explicit (0xa0 + v.tag_number) v.value = ap (λ (m : TagMode). context v.tag_number m v.value) mode ∙ ap (λ (m : ℕ). context m modes.Explicit v.value) (sym k) in
      (0xa0 + v.tag_number, x, is_tag_of v.tag_number n, and_true (nat_lt 0x9f (0xa0 + v.tag_number)) _ (lt-ltb 0x9f (0xa0 + v.tag_number) (omega arith)) (lt-ltb (0xa0 + v.tag_number) 0xbf (omega arith)), (v.value, r, same), e)

  pub context-exact : Exact (ContextText P) (context_at p)
  context-exact = same_front-exact (ByTag is_explicit ContextOf) (ContextText P) (context_at p) to from parts

  pub context-whole : Whole is_context (ContextText P)
  context-whole b v r =
      (0xa0 + v.tag_number, r.0, is_tag_of v.tag_number r.2, and_true (nat_lt 0x7f (0xa0 + v.tag_number)) _ (lt-ltb 0x7f (0xa0 + v.tag_number) (omega arith)) (lt-ltb (0xa0 + v.tag_number) 0xc0 (omega (arith, r.2))), r.4)

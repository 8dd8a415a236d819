-- lemmas only: nothing to believe here
-- Equal values are those of which the same is seen.
use Rattle.std.proofs.Common.{◌≡◌, ℕ, Bool, true, false, List, refl, sym, ap, ◌∙◌, ◌&&◌, nat_eq, subst}
use Rattle.std.proofs.lemmas.Bool.{eqb-true, eq-eqb}
use Rattle.std.proofs.lemmas.Cmp.{nat_list_eq_equiv}
use Rattle.std.specs.Prelude.{Option, Some, None}
use Rattle.std.specs.Option.{option_eq}
use Rattle.asn1_core.specs.Texts.{seen_option}
use Rattle.std.specs.Cmp.Lexicographic.{same_text, pointwise}
use Rattle.asn1_core.specs.OctetLaws.{both, and_true}
use Rattle.der_core.specs.Any.{seen_any}
use Rattle.der_core.specs.BitString.{seen_bits}
use Rattle.der_core.specs.ContextSpecific.{context}
use Rattle.der_core.specs.declared.context_specific.ContextSpecific.{ContextSpecific}
use Rattle.der_core.specs.declared.context_specific.TagMode.{TagMode}
use Rattle.der_core.specs.declared.context_specific.TagMode.TheVariants as modes

pub octets_same : (v w : List ℕ) → (v ≡ w → pointwise nat_eq v w ≡ true) × (pointwise nat_eq v w ≡ true → v ≡ w)
octets_same v w = (
  λ e. subst (λ (x : List ℕ). pointwise nat_eq v x ≡ true) e (nat_list_eq_equiv.refl v),
  λ h. same_text v w (sym h),
)

pub any_same : (t u : ℕ) (v w : List ℕ) → (seen_any t v ≡ seen_any u w → (nat_eq t u && pointwise nat_eq v w) ≡ true) × ((nat_eq t u && pointwise nat_eq v w) ≡ true → seen_any t v ≡ seen_any u w)
any_same t u v w = (
  λ e.
      let a : t ≡ u = ap (λ (p : ℕ × List ℕ). p.0) e in
      let b : v ≡ w = ap (λ (p : ℕ × List ℕ). p.1) e in
      and_true (nat_eq t u) (pointwise nat_eq v w) (eq-eqb t u a) ((octets_same v w).0 b),
  λ h.
      let k = both (nat_eq t u) (pointwise nat_eq v w) h in
      ap (λ (n : ℕ). seen_any n v) (eqb-true t u k.0) ∙ ap (λ (x : List ℕ). seen_any u x) ((octets_same v w).1 k.1),
)

pub bits_same : (t u : ℕ) (v w : List ℕ) → (seen_bits t v ≡ seen_bits u w → (nat_eq t u && pointwise nat_eq v w) ≡ true) × ((nat_eq t u && pointwise nat_eq v w) ≡ true → seen_bits t v ≡ seen_bits u w)
bits_same = any_same

pub number_same : (v w : ℕ) → (v ≡ w → nat_eq v w ≡ true) × (nat_eq v w ≡ true → v ≡ w)
number_same v w = (eq-eqb v w, eqb-true v w)

pub option_same : {A V : Type 0} (seen : A → V) (eq : A → A → Bool) → ((v w : A) → (seen v ≡ seen w → eq v w ≡ true) × (eq v w ≡ true → seen v ≡ seen w))
    → (p q : Option A) → (seen_option seen p ≡ seen_option seen q → option_eq eq p q ≡ true) × (option_eq eq p q ≡ true → seen_option seen p ≡ seen_option seen q)
option_same seen eq same None None = (λ e. refl, λ h. refl)
option_same seen eq same None (Some w) = (λ e. absurd cc, λ h. absurd cc)
option_same seen eq same (Some v) None = (λ e. absurd cc, λ h. absurd cc)
option_same {V} seen eq same (Some v) (Some w) = (
  λ e. let f : seen v ≡ seen w = cc in (same v w).0 f,
  λ h. ap (λ (x : V). Some x) ((same v w).1 h),
)

-- the modes' test, by its four results
module _ (q : TagMode → TagMode → Bool) (ee : q modes.Explicit modes.Explicit ≡ true) (ei : q modes.Explicit modes.Implicit ≡ false) (ie : q modes.Implicit modes.Explicit ≡ false) (ii : q modes.Implicit modes.Implicit ≡ true) where
  mode_told : (k l : TagMode) → q k l ≡ true → k ≡ l
  mode_told modes.Explicit modes.Explicit e = refl
  mode_told modes.Explicit modes.Implicit e = let f : true ≡ false = sym e ∙ ei in absurd cc
  mode_told modes.Implicit modes.Explicit e = let f : true ≡ false = sym e ∙ ie in absurd cc
  mode_told modes.Implicit modes.Implicit e = refl

  mode_itself : (k : TagMode) → q k k ≡ true
  mode_itself modes.Explicit = ee
  mode_itself modes.Implicit = ii

  module _ {A V : Type 0} (seen : A → V) (eq : A → A → Bool) (same : (v w : A) → (seen v ≡ seen w → eq v w ≡ true) × (eq v w ≡ true → seen v ≡ seen w)) where
    pub context_same : (m n : ℕ) (k l : TagMode) (v w : A)
        → (context m k (seen v) ≡ context n l (seen w) → (nat_eq m n && (q k l && eq v w)) ≡ true) × ((nat_eq m n && (q k l && eq v w)) ≡ true → context m k (seen v) ≡ context n l (seen w))
    context_same m n k l v w = (
      λ e.
          let a : m ≡ n = ap (λ (c : ContextSpecific V). c.tag_number) e in
          let b : k ≡ l = ap (λ (c : ContextSpecific V). c.tag_mode) e in
          let d : seen v ≡ seen w = ap (λ (c : ContextSpecific V). c.value) e in
          and_true (nat_eq m n) (q k l && eq v w) (eq-eqb m n a) (and_true (q k l) (eq v w) (subst (λ (x : TagMode). q k x ≡ true) b (mode_itself k)) ((same v w).0 d)),
      λ h.
          let x = both (nat_eq m n) (q k l && eq v w) h in
          let y = both (q k l) (eq v w) x.1 in
          ap (λ (i : ℕ). context i k (seen v)) (eqb-true m n x.0) ∙ ap (λ (i : TagMode). context n i (seen v)) (mode_told k l y.0) ∙ ap (λ (i : V). context n l i) ((same v w).1 y.1),
    )

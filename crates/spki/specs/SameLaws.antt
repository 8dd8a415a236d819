-- lemmas only: nothing to believe here
-- Equal algorithms and public keys are those of which the same is seen, where this holds of their parts.
use Rattle.std.proofs.Common.{◌≡◌, Bool, true, ◌&&◌, Option, Some, None, nat_eq, refl, ap, ◌∙◌}
use Rattle.std.specs.Ordering.{on}
use Rattle.std.specs.Option.{option_eq}
use Rattle.std.specs.Cmp.Lexicographic.{pointwise}
use Rattle.asn1_core.specs.OctetLaws.{both, and_true}
use Rattle.asn1_core.specs.Oid.{oid_octets, oid_decides}
use Rattle.asn1_core.specs.Texts.{seen_option}
use Rattle.asn1_core.specs.declared.identifier.ObjectIdentifier.{ObjectIdentifier}
use Rattle.spki.specs.declared.algorithm.AlgorithmIdentifier.{AlgorithmIdentifier}
use Rattle.spki.specs.declared.subject_public_key_info.SubjectPublicKeyInfo.{SubjectPublicKeyInfo}
use Rattle.spki.specs.Algorithm.{algorithm}
use Rattle.spki.specs.SubjectPublicKeyInfo.{public_key}

-- eq says whether the same is seen
abbrev pub Tells : {A V : Type 0} → (A → V) → (A → A → Bool) → Type 0
Tells {A = A} seen eq = (v w : A) → (seen v ≡ seen w → eq v w ≡ true) × (eq v w ≡ true → seen v ≡ seen w)

some_is : {V : Type 0} (a b : V) → Some a ≡ Some b → a ≡ b
some_is a b e = cc

module _ {A V : Type 0} (seen : A → V) (eq : A → A → Bool) (tells : Tells seen eq) where
  option_same : (x y : Option A) → (seen_option seen x ≡ seen_option seen y → option_eq eq x y ≡ true) × (option_eq eq x y ≡ true → seen_option seen x ≡ seen_option seen y)
  option_same None None = ((λ e. refl), (λ h. refl))
  option_same None (Some y) = ((λ e. absurd cc), (λ h. absurd cc))
  option_same (Some x) None = ((λ e. absurd cc), (λ h. absurd cc))
  option_same (Some x) (Some y) = ((λ e. (tells x y).0 (some_is (seen x) (seen y) e)), (λ h. ap (λ (v : V). Some v) ((tells x y).1 h)))

  pub algorithm_same : (o p : ObjectIdentifier) (x y : Option A)
      → (algorithm o (seen_option seen x) ≡ algorithm p (seen_option seen y) → (on oid_octets (pointwise nat_eq) o p && option_eq eq x y) ≡ true)
      × ((on oid_octets (pointwise nat_eq) o p && option_eq eq x y) ≡ true → algorithm o (seen_option seen x) ≡ algorithm p (seen_option seen y))
  algorithm_same o p x y = (
    λ e. and_true (on oid_octets (pointwise nat_eq) o p) (option_eq eq x y) ((oid_decides o p).1 (ap (λ (a : AlgorithmIdentifier V). a.oid) e)) ((option_same x y).0 (ap (λ (a : AlgorithmIdentifier V). a.parameters) e)),
    λ h.
        let t = both (on oid_octets (pointwise nat_eq) o p) (option_eq eq x y) h in
        ap (λ (q : ObjectIdentifier). algorithm q (seen_option seen x)) ((oid_decides o p).0 t.0) ∙ ap (λ (z : Option V). algorithm p z) ((option_same x y).1 t.1),
  )

-- a public key, by its algorithm and its key
pub public_key_same : {V W K : Type 0} (a b : AlgorithmIdentifier V) (alike : Bool) → (a ≡ b → alike ≡ true) × (alike ≡ true → a ≡ b)
    → (seen : K → W) (eq : K → K → Bool) → Tells seen eq → (k l : K)
    → (public_key a (seen k) ≡ public_key b (seen l) → (alike && eq k l) ≡ true) × ((alike && eq k l) ≡ true → public_key a (seen k) ≡ public_key b (seen l))
public_key_same {V} {W} {K} a b alike algorithms seen eq tells k l = (
  λ e. and_true alike (eq k l) (algorithms.0 (ap (λ (i : SubjectPublicKeyInfo V W). i.algorithm) e)) ((tells k l).0 (ap (λ (i : SubjectPublicKeyInfo V W). i.subject_public_key) e)),
  λ h.
      let t = both alike (eq k l) h in
      ap (λ (c : AlgorithmIdentifier V). public_key c (seen k)) (algorithms.1 t.0) ∙ ap (λ (w : W). public_key b w) ((tells k l).1 t.1),
)

-- The parent of a certificate.
use Rattle.std.proofs.Common.{◌≡◌, ◌≢◌, ℕ, List, arith, sym, ap, ◌∙◌, subst}
use Rattle.std.specs.Prelude.{true, false, cond, Option, Some, None, MatchOption}
use Rattle.std.specs.List.{slice_get}
use Rattle.std.specs.Option.{option_flatten}
use Rattle.std.specs.Str.{bytes_eq}
use Rattle.std.proofs.lemmas.Slice.Eq.{bytes_eq-Decides}
use Rattle.inventory_core.specs.Certificate.{Certificate}
use Rattle.inventory_core.specs.Chains.{IsLeast, IsParent, Subject, has_subject}
use Rattle.inventory_core.specs.SubjectIndex.{at_issuer, issuer_of, named_from}
use Rattle.inventory_core.specs.declared.parent.Parent.TheVariants as parent
use Rattle.inventory_core.proofs.Least.{bytes_same, first_least}

same_bytes : (xs ys : List ℕ) → xs ≡ ys → bytes_eq xs ys ≡ true
same_bytes xs ys e = grind (arith, bytes_eq-Decides, e)

differ : (xs ys : List ℕ) → bytes_eq xs ys ≡ false → xs ≢ ys
differ xs ys miss e = let h : true ≡ false = sym (same_bytes xs ys e) ∙ miss in absurd (cc)

-- A certificate that is not its own issuer has not its issuer's name.
not_itself : (cs : List (Option Certificate)) (j : ℕ) (c : Certificate) → slice_get cs j ≡ Some (Some c) → bytes_eq c.issuer c.subject ≡ false → (i : ℕ) → Subject cs c.issuer i → i ≢ j
not_itself cs j c at miss i named same =
    let here : has_subject (slice_get cs j) c.issuer ≡ true = subst (Subject cs c.issuer) same named in
    let own : bytes_eq c.subject c.issuer ≡ true = ap (λ x. has_subject x c.issuer) (sym at) ∙ here in
    differ c.issuer c.subject miss (sym (bytes_same c.subject c.issuer own))

found : (cs : List (Option Certificate)) (j : ℕ) (c : Certificate) → slice_get cs j ≡ Some (Some c) → bytes_eq c.issuer c.subject ≡ false → issuer_of cs j ≡ named_from cs 0 c.issuer
found cs j c at miss = ap (at_issuer (named_from cs 0)) at ∙ ap (λ b. cond b None (named_from cs 0 c.issuer)) miss

pub parent_itself : (cs : List (Option Certificate)) (j : ℕ) (c : Certificate) → Some c ≡ option_flatten (slice_get cs j) → bytes_eq c.issuer c.subject ≡ true → MatchOption (option_flatten (slice_get cs j)) (parent.Itself ≡ parent.Unknown) (λ d. IsParent cs j d parent.Itself)
parent_itself cs j c at own = subst (λ x. MatchOption x (parent.Itself ≡ parent.Unknown) (λ d. IsParent cs j d parent.Itself)) at (bytes_same c.issuer c.subject own)

unflat : (x : Option (Option Certificate)) (c : Certificate) → Some c ≡ option_flatten x → x ≡ Some (Some c)
unflat None c e = absurd (cc)
unflat (Some o) c e = ap Some (sym e)

pub parent_of_one : (cs : List (Option Certificate)) (j : ℕ) (c : Certificate) (k : ℕ) → Some c ≡ option_flatten (slice_get cs j) → bytes_eq c.issuer c.subject ≡ false → issuer_of cs j ≡ Some k → MatchOption (option_flatten (slice_get cs j)) (parent.Of k ≡ parent.Unknown) (λ d. IsParent cs j d (parent.Of k))
parent_of_one cs j c k at miss is =
    let there = unflat (slice_get cs j) c at in
    let least : IsLeast (Subject cs c.issuer) (Some k) = subst (IsLeast (Subject cs c.issuer)) (sym (found cs j c there miss) ∙ is) (first_least cs c.issuer) in
    subst (λ x. MatchOption x (parent.Of k ≡ parent.Unknown) (λ d. IsParent cs j d (parent.Of k))) at
    (differ c.issuer c.subject miss, ((not_itself cs j c there miss k least.0, least.0), λ i lt (other, named). least.1 i lt named))

pub parent_unknown : (cs : List (Option Certificate)) (j : ℕ) (c : Certificate) → Some c ≡ option_flatten (slice_get cs j) → bytes_eq c.issuer c.subject ≡ false → issuer_of cs j ≡ None → MatchOption (option_flatten (slice_get cs j)) (parent.Unknown ≡ parent.Unknown) (λ d. IsParent cs j d parent.Unknown)
parent_unknown cs j c at miss is =
    let there = unflat (slice_get cs j) c at in
    let least : IsLeast (Subject cs c.issuer) None = subst (IsLeast (Subject cs c.issuer)) (sym (found cs j c there miss) ∙ is) (first_least cs c.issuer) in
    subst (λ x. MatchOption x (parent.Unknown ≡ parent.Unknown) (λ d. IsParent cs j d parent.Unknown)) at
    (differ c.issuer c.subject miss, λ i (other, named). least i named)

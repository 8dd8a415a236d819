-- Chains rise.
use Rattle.std.proofs.Common.{◌≡◌, ◌<◌, ℕ, zero, suc, List, [], ◌∷◌, ◌++◌, length, refl, sym, ◌∙◌, subst, arith}
use Rattle.std.specs.Prelude.{Bool, true, false, ◌||◌, ◌==◌, Option, Some, None}
use Rattle.std.specs.Bool.{MatchBool}
use Rattle.std.specs.List.{slice_get}
use Rattle.std.specs.Str.{bytes_eq}
use Rattle.std.proofs.lemmas.Bool.Decides.{nat_tests}
use Rattle.std.proofs.lemmas.List.{append_assoc, append-nil}
use Rattle.inventory_core.specs.Certificate.{Certificate}
use Rattle.inventory_core.specs.Chains.{Continues, FollowsOne, IsChain, IsLeast, Issued, Next, Once, Subject, has}
use Rattle.inventory_core.proofs.Pigeons.{has_more, left_out, left_out_lt, or_true, same_test, true_or}

-- What follows is new, and its subject is the issuer.
pub step : (cs : List (Option Certificate)) (sofar : List ℕ) (x : Option (Option Certificate)) (k : ℕ) → FollowsOne cs sofar x (Some k)
    → (has sofar k ≡ false) × ((c : Certificate) × (x ≡ Some (Some c)) × Subject cs c.issuer k)
step cs sofar None k h = absurd (let e : Some k ≡ None = h in cc)
step cs sofar (Some None) k h = absurd (let e : Some k ≡ None = h in cc)
step cs sofar (Some (Some c)) k h = elim (bytes_eq c.issuer c.subject)
    as (λ b. MatchBool b (Some k ≡ None) (IsLeast (λ i. (has sofar i ≡ false) × Subject cs c.issuer i) (Some k)) → (has sofar k ≡ false) × ((d : Certificate) × (Some (Some c) ≡ Some (Some d)) × Subject cs d.issuer k)) [
      | true ↦ λ e. absurd cc
      | false ↦ λ l. (l.0.0, (c, refl, l.0.1))
    ] h

clash : (sofar : List ℕ) (k i : ℕ) → has sofar k ≡ false → has sofar i ≡ true → (k == i) ≡ false
clash sofar k i new old = elim (k == i) as (λ b. (k == i) ≡ b → b ≡ false) [
  | true ↦ λ e. let same : k ≡ i = grind (arith, nat_tests, e) in absurd (let f : has sofar i ≡ false = subst (λ n. has sofar n ≡ false) same new in let g : true ≡ false = sym old ∙ f in cc)
  | false ↦ λ e. refl
] refl

or_is_false : (a b : Bool) → a ≡ false → b ≡ false → (a || b) ≡ false
or_is_false true b e f = e
or_is_false false b e f = f

-- What follows is not among the numbers so far.
apart : (cs : List (Option Certificate)) (sofar : List ℕ) (j : ℕ) (ks : List ℕ) (i : ℕ) → Continues cs sofar j ks → has sofar i ≡ true → has ks i ≡ false
apart cs sofar j [] i h old = refl
apart cs sofar j (k ∷ ks) i h old =
    or_is_false (k == i) (has ks i) (clash sofar k i (step cs sofar (slice_get cs j) k h.0).0 old)
    (apart cs (sofar ++ k ∷ []) k ks i h.1 (has_more sofar k i ∙ true_or (has sofar i) (k == i) old))

once : (cs : List (Option Certificate)) (sofar : List ℕ) (j : ℕ) (ks : List ℕ) → Continues cs sofar j ks → Once ks
once cs sofar j [] h = tt
once cs sofar j (k ∷ ks) h =
    (apart cs (sofar ++ k ∷ []) k ks k h.1 (has_more sofar k k ∙ or_true (has sofar k) (k == k) (same_test k k refl)), once cs (sofar ++ k ∷ []) k ks h.1)

issued : (cs : List (Option Certificate)) (sofar : List ℕ) (j : ℕ) (ks : List ℕ) → Continues cs sofar j ks → Issued cs j ks
issued cs sofar j [] h = tt
issued cs sofar j (k ∷ ks) h = ((step cs sofar (slice_get cs j) k h.0).1, issued cs (sofar ++ k ∷ []) k ks h.1)

pub rise : (cs : List (Option Certificate)) (start : ℕ) (ks : List ℕ) → IsChain cs start ks → Once ks × ((rest : List ℕ) → ks ≡ start ∷ rest → Issued cs start rest)
rise cs start ks (rest, is, h) = (
  subst Once (sym is) (apart cs (start ∷ []) start rest start h (true_or (start == start) false (same_test start start refl)), once cs (start ∷ []) start rest h),
  λ more e. let same : rest ≡ more = (let f = sym is ∙ e in cc) in subst (Issued cs start) same (issued cs (start ∷ []) start rest h),
)

-- ---- the loop

pub named_below : (cs : List (Option Certificate)) (name : List ℕ) (k : ℕ) → Subject cs name k → k < length cs
named_below [] name k h = absurd (let e : false ≡ true = h in cc)
named_below (c ∷ cs) name zero h = omega arith
named_below (c ∷ cs) name (suc k) h = let l = named_below cs name k h in omega (arith, l)

below : (cs : List (Option Certificate)) (sofar : List ℕ) (x : Option (Option Certificate)) (k : ℕ) → FollowsOne cs sofar x (Some k) → k < length cs
below cs sofar None k h = absurd (let e : Some k ≡ None = h in cc)
below cs sofar (Some None) k h = absurd (let e : Some k ≡ None = h in cc)
below cs sofar (Some (Some c)) k h = (let t = (step cs sofar (Some (Some c)) k h).1 in named_below cs t.0.issuer k t.2)

pub smaller : (cs : List (Option Certificate)) (sofar : List ℕ) (x : Option (Option Certificate)) (k : ℕ) → FollowsOne cs sofar x (Some k) → left_out (sofar ++ k ∷ []) (length cs) < left_out sofar (length cs)
smaller cs sofar x k h = left_out_lt sofar k (length cs) (below cs sofar x k h) (step cs sofar x k h).0

pub one_more : (cs : List (Option Certificate)) (start last k : ℕ) (chain : List ℕ) → ((rest : List ℕ) → Continues cs chain last rest → IsChain cs start (chain ++ rest)) → Next cs chain last (Some k)
    → (rest : List ℕ) → Continues cs (chain ++ k ∷ []) k rest → IsChain cs start ((chain ++ k ∷ []) ++ rest)
one_more cs start last k chain told next rest h = subst (IsChain cs start) (sym (append_assoc chain (k ∷ []) rest)) (told (k ∷ rest) (next, h))

pub at_end : (cs : List (Option Certificate)) (start last : ℕ) (chain : List ℕ) → ((rest : List ℕ) → Continues cs chain last rest → IsChain cs start (chain ++ rest)) → Next cs chain last None → IsChain cs start chain
at_end cs start last chain told next = subst (IsChain cs start) (append-nil chain) (told [] next)

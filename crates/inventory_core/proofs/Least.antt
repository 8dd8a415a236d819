-- The least certificate with a subject.
use Rattle.std.proofs.Common.{◌≡◌, ◌<◌, ◌≤◌, ◌+◌, ◌-◌, ℕ, zero, suc, List, length, inl, inr, arith, refl, sym, ap, ◌∙◌}
use Rattle.std.specs.Prelude.{Bool, true, false, cond, Option, Some, None}
use Rattle.std.specs.List.{slice_get}
use Rattle.std.specs.Str.{bytes_eq}
use Rattle.std.proofs.lemmas.Bool.{cases_lt}
use Rattle.std.proofs.lemmas.Slice.Eq.{bytes_eq-Decides}
use Rattle.inventory_core.specs.Certificate.{Certificate}
use Rattle.inventory_core.specs.Chains.{IsLeast, Subject, has_subject}
use Rattle.inventory_core.specs.SubjectIndex.{at_subject, least_from, named_from, namesake_of}
use Rattle.inventory_core.proofs.Rising.{named_below}

-- ---- the least number of a range

sooner : (passes : ℕ → Bool) (i m : ℕ) (o : Option ℕ) → passes i ≡ false → IsLeast (λ k. (suc i ≤ k) × (k < suc i + m) × (passes k ≡ true)) o
    → IsLeast (λ k. (i ≤ k) × (k < i + suc m) × (passes k ≡ true)) o
sooner passes i m None miss h = λ k (low, high, hit). elim (cases_lt i k) [
  | inl lt ↦ h k (omega arith, omega arith, hit)
  | inr le ↦ let same : k ≡ i = omega arith in let clash : true ≡ false = sym hit ∙ ap passes same ∙ miss in absurd (cc)
]
sooner passes i m (Some j) miss h = (
  (omega (arith, h.0.0), omega (arith, h.0.1), h.0.2),
  λ k lt (low, high, hit). elim (cases_lt i k) [
    | inl less ↦ h.1 k lt (omega arith, omega arith, hit)
    | inr le ↦ let same : k ≡ i = omega arith in let clash : true ≡ false = sym hit ∙ ap passes same ∙ miss in absurd (cc)
  ],
)

least_is : (passes : ℕ → Bool) (i m : ℕ) → IsLeast (λ k. (i ≤ k) × (k < i + m) × (passes k ≡ true)) (least_from passes i m)
least_is passes i zero = λ k (low, high, hit). omega arith
least_is passes i (suc m) = elim (passes i) as (λ b. passes i ≡ b → IsLeast (λ k. (i ≤ k) × (k < i + suc m) × (passes k ≡ true)) (cond b (Some i) (least_from passes (suc i) m))) [
  | true ↦ λ e. ((omega arith, omega arith, e), λ k lt (low, high, hit). omega arith)
  | false ↦ λ e. sooner passes i m (least_from passes (suc i) m) e (least_is passes (suc i) m)
] refl

bare : (passes : ℕ → Bool) (n i : ℕ) (o : Option ℕ) → ((k : ℕ) → passes k ≡ true → k < n) → IsLeast (λ k. (i ≤ k) × (k < i + (n - i)) × (passes k ≡ true)) o → IsLeast (λ k. (i ≤ k) × (passes k ≡ true)) o
bare passes n i None below h = λ k (low, hit). let lt = below k hit in h k (low, omega arith, hit)
bare passes n i (Some j) below h = (
  (h.0.0, h.0.2),
  λ k lt (low, hit). let high = below k hit in h.1 k lt (low, omega arith, hit),
)

from_first : (P : ℕ → Type 0) (o : Option ℕ) → IsLeast (λ k. (0 ≤ k) × P k) o → IsLeast P o
from_first P None h = λ k p. h k (omega arith, p)
from_first P (Some j) h = (h.0.1, λ k lt p. h.1 k lt (omega arith, p))

-- the least of all, where those that pass are below n
pub least_all : (passes : ℕ → Bool) (n : ℕ) → ((k : ℕ) → passes k ≡ true → k < n) → IsLeast (λ k. passes k ≡ true) (least_from passes 0 (n - 0))
least_all passes n below = from_first (λ k. passes k ≡ true) (least_from passes 0 (n - 0)) (bare passes n 0 (least_from passes 0 (n - 0)) below (least_is passes 0 (n - 0)))

-- ---- the least certificate with a subject

pub named_least : (cs : List (Option Certificate)) (i : ℕ) (name : List ℕ) → IsLeast (λ k. (i ≤ k) × Subject cs name k) (named_from cs i name)
named_least cs i name = bare (λ k. has_subject (slice_get cs k) name) (length cs) i (named_from cs i name) (named_below cs name) (least_is (λ k. has_subject (slice_get cs k) name) i (length cs - i))

pub first_least : (cs : List (Option Certificate)) (name : List ℕ) → IsLeast (Subject cs name) (named_from cs 0 name)
first_least cs name = least_all (λ k. has_subject (slice_get cs k) name) (length cs) (named_below cs name)

-- ---- the same name

pub bytes_same : (xs ys : List ℕ) → bytes_eq xs ys ≡ true → xs ≡ ys
bytes_same xs ys e = grind (arith, bytes_eq-Decides, e)

same_in : (x : Option (Option Certificate)) (name other : List ℕ) → has_subject x name ≡ true → has_subject x other ≡ true → name ≡ other
same_in (Some (Some c)) name other h g = sym (bytes_same c.subject name h) ∙ bytes_same c.subject other g
same_in (Some None) name other h g = absurd (cc)
same_in None name other h g = absurd (cc)

-- A certificate has one subject.
pub same_name : (cs : List (Option Certificate)) (k : ℕ) (name other : List ℕ) → Subject cs name k → Subject cs other k → name ≡ other
same_name cs k name other h g = same_in (slice_get cs k) name other h g

namesake_in : (find : List ℕ → Option ℕ) (x : Option (Option Certificate)) (name : List ℕ) → has_subject x name ≡ true → at_subject find x ≡ find name
namesake_in find (Some (Some c)) name h = ap find (bytes_same c.subject name h)
namesake_in find (Some None) name h = absurd (cc)
namesake_in find None name h = absurd (cc)

pub namesake_named : (cs : List (Option Certificate)) (k : ℕ) (name : List ℕ) → Subject cs name k → namesake_of cs k ≡ named_from cs (k + 1) name
namesake_named cs k name h = namesake_in (named_from cs (k + 1)) (slice_get cs k) name h

-- ---- one step from the last to the first

none_left : (passes : ℕ → Bool) (i m : ℕ) → m ≡ 0 → least_from passes i m ≡ None
none_left passes i zero e = refl
none_left passes i (suc m) e = absurd (omega arith)

-- after the last there is none
pub least_past : (passes : ℕ → Bool) (n i : ℕ) → n ≤ i → least_from passes i (n - i) ≡ None
least_past passes n i le = none_left passes i (n - i) (omega arith)

one_before : (passes : ℕ → Bool) (i j m n : ℕ) → j ≡ suc i → n ≡ suc m → least_from passes i n ≡ cond (passes i) (Some i) (least_from passes j m)
one_before passes i j m n e f = rw (f, e) refl

least_step : (passes : ℕ → Bool) (n i : ℕ) → i < n → least_from passes i (n - i) ≡ cond (passes i) (Some i) (least_from passes (i + 1) (n - (i + 1)))
least_step passes n i lt = one_before passes i (i + 1) (n - (i + 1)) (n - i) (omega arith) (omega arith)

-- The least from i on, where those from i + 1 on are known and i is tried.
pub least_noted : (passes : ℕ → Bool) (n i k : ℕ) (hit : Bool) (old new : Option ℕ) → k ≡ i + 1 → i < n → passes i ≡ hit → old ≡ least_from passes k (n - k) → new ≡ cond hit (Some i) old
    → new ≡ least_from passes i (n - i)
least_noted passes n i k hit old new next lt at is e =
    e ∙ ap (λ o. cond hit (Some i) o) (is ∙ ap (λ m. least_from passes m (n - m)) next) ∙ sym (least_step passes n i lt ∙ ap (λ b. cond b (Some i) (least_from passes (i + 1) (n - (i + 1)))) at)

-- ---- under one function for another that gives the same

pub subject_alike : (f g : List ℕ → Option ℕ) → ((name : List ℕ) → f name ≡ g name) → (x : Option (Option Certificate)) → at_subject f x ≡ at_subject g x
subject_alike f g e (Some (Some c)) = e c.subject
subject_alike f g e (Some None) = refl
subject_alike f g e None = refl

-- The cursors of a chain.
use Rattle.std.proofs.Common.{◌≡◌, ◌≢◌, ◌≤◌, ◌+◌, ℕ, List, [], ◌∷◌, ◌++◌, get_or, inl, inr, arith, refl, sym, ap, ◌∙◌, subst}
use Rattle.std.specs.Prelude.{Bool, true, false, cond, ◌||◌, ◌==◌, Option, Some, None, IfSome, Result, Ok, Err, IfOk}
use Rattle.std.specs.Bool.{MatchBool}
use Rattle.std.specs.Str.{bytes_eq}
use Rattle.std.proofs.lemmas.Bool.{cases_lt}
use Rattle.std.proofs.lemmas.Bool.Decides.{nat_tests}
use Rattle.inventory_core.specs.Certificate.{Certificate}
use Rattle.inventory_core.specs.Chains.{FollowsOne, IsLeast, Subject, has}
use Rattle.inventory_core.specs.SubjectIndex.{AreCursors, IsBefore, IsRest, at_issuer, moved, named_from, skipped, namesake_of}
use Rattle.inventory_core.proofs.Least.{first_least, named_least, same_name, namesake_named}
use Rattle.inventory_core.proofs.Pigeons.{has_more, or_true, same_test, true_or}

-- ---- tests

clash : (b : Bool) → b ≡ true → b ≡ false → ⊥
clash b hit miss = let e : true ≡ false = sym hit ∙ miss in absurd (cc)

other_test : (k i : ℕ) → k ≢ i → (k == i) ≡ false
other_test k i ne = grind (arith, nat_tests, ne)

or_is_false : (a b : Bool) → a ≡ false → b ≡ false → (a || b) ≡ false
or_is_false true b e f = e
or_is_false false b e f = f

tested : (k i : ℕ) → (k == i) ≡ true → k ≡ i
tested k i e = grind (arith, nat_tests, e)

untested : (k i : ℕ) → (k == i) ≡ false → k ≢ i
untested k i e = grind (arith, nat_tests, e)

old_there : (chain : List ℕ) (k i : ℕ) → has chain i ≡ true → has (chain ++ k ∷ []) i ≡ true
old_there chain k i h = has_more chain k i ∙ true_or (has chain i) (k == i) h

new_there : (chain : List ℕ) (k : ℕ) → has (chain ++ k ∷ []) k ≡ true
new_there chain k = has_more chain k k ∙ or_true (has chain k) (k == k) (same_test k k refl)

still_left : (chain : List ℕ) (k i : ℕ) → has chain i ≡ false → k ≢ i → has (chain ++ k ∷ []) i ≡ false
still_left chain k i h ne = has_more chain k i ∙ or_is_false (has chain i) (k == i) h (other_test k i ne)

-- ---- what is taken next

-- The next one for a chain among those with this subject.
abbrev IsNextNamed : List (Option Certificate) → List ℕ → List ℕ → Option ℕ → Type 0
IsNextNamed cs chain name o = IsLeast (λ k. (has chain k ≡ false) × Subject cs name k) o

after_start : (cs : List (Option Certificate)) (start : ℕ) (chain name : List ℕ) (o : Option ℕ) → IsRest cs start chain name (Some start) → has chain start ≡ true
    → IsLeast (λ i. (start + 1 ≤ i) × Subject cs name i) o → IsNextNamed cs chain name o
after_start cs start chain name None rest started h = λ i (new, named). elim (cases_lt i start) [
  | inl lt ↦ clash (has chain i) (rest.passed i named lt) new
  | inr le ↦ elim (cases_lt start i) [
    | inl more ↦ h i (omega arith, named)
    | inr least ↦ let same : start ≡ i = omega arith in clash (has chain i) (subst (λ n. has chain n ≡ true) same started) new
  ]
]
after_start cs start chain name (Some k) rest started h = (
  (rest.left start k refl (omega (arith, h.0.0)) h.0.1 (omega (arith, h.0.0)), h.0.1),
  λ i below (new, named). elim (cases_lt i start) [
    | inl lt ↦ clash (has chain i) (rest.passed i named lt) new
    | inr le ↦ elim (cases_lt start i) [
      | inl more ↦ h.1 i below (omega arith, named)
      | inr least ↦ let same : start ≡ i = omega arith in clash (has chain i) (subst (λ n. has chain n ≡ true) same started) new
    ]
  ],
)

pub next_named : (cs : List (Option Certificate)) (start : ℕ) (chain name : List ℕ) (namesakes : List (Option ℕ)) (cursor : Option ℕ)
    → ((k : ℕ) → get_or namesakes k None ≡ namesake_of cs k) → has chain start ≡ true → IsRest cs start chain name cursor → IsNextNamed cs chain name (skipped namesakes start cursor)
next_named cs start chain name namesakes None are started rest = λ k (new, named). clash (has chain k) (rest.passed k named tt) new
next_named cs start chain name namesakes (Some k) are started rest =
    elim (k == start) as (λ b. (k == start) ≡ b → IsNextNamed cs chain name (cond b (get_or namesakes k None) (Some k))) [
      | true ↦ λ e.
          let same : k ≡ start = tested k start e in
          let at_start : IsRest cs start chain name (Some start) = subst (λ n. IsRest cs start chain name (Some n)) same rest in
          let namesake : get_or namesakes k None ≡ named_from cs (start + 1) name = ap (λ n. get_or namesakes n None) same ∙ are start ∙ namesake_named cs start name (at_start.among start refl) in
          subst (IsNextNamed cs chain name) (sym namesake) (after_start cs start chain name (named_from cs (start + 1) name) at_start started (named_least cs (start + 1) name))
      | false ↦ λ e. (
        (rest.left k k refl (omega arith) (rest.among k refl) (untested k start e), rest.among k refl),
        λ i lt (new, named). clash (has chain i) (rest.passed i named lt) new,
      )
    ] refl

-- ---- the cursor moves

-- From the one that is taken on, none is in the chain, the start apart.
left_after : (cs : List (Option Certificate)) (start : ℕ) (chain name : List ℕ) (namesakes : List (Option ℕ)) (cursor : Option ℕ) (k i : ℕ)
    → ((k : ℕ) → get_or namesakes k None ≡ namesake_of cs k) → IsRest cs start chain name cursor → skipped namesakes start cursor ≡ Some k → k ≤ i → Subject cs name i → i ≢ start → has chain i ≡ false
left_after cs start chain name namesakes None k i are rest is le named ne = absurd (let e : None ≡ Some k = is in cc)
left_after cs start chain name namesakes (Some m) k i are rest is le named ne =
    elim (m == start) as (λ b. cond b (get_or namesakes m None) (Some m) ≡ Some k → has chain i ≡ false) [
      | true ↦ λ e.
          let namesake : named_from cs (m + 1) name ≡ Some k = sym (namesake_named cs m name (rest.among m refl)) ∙ sym (are m) ∙ e in
          let least : IsLeast (λ n. (m + 1 ≤ n) × Subject cs name n) (Some k) = subst (IsLeast (λ n. (m + 1 ≤ n) × Subject cs name n)) namesake (named_least cs (m + 1) name) in
          rest.left m i refl (omega (arith, least.0.0)) named ne
      | false ↦ λ e. let same : m ≡ k = (let f : Some m ≡ Some k = e in cc) in rest.left m i refl (omega arith) named ne
    ] is

before_namesake : (cs : List (Option Certificate)) (name : List ℕ) (k i : ℕ) (o : Option ℕ) → IsLeast (λ n. (k + 1 ≤ n) × Subject cs name n) o → Subject cs name i → IsBefore i o → i ≤ k
before_namesake cs name k i None h named before = elim (cases_lt k i) [
  | inl lt ↦ absurd (h i (omega arith, named))
  | inr le ↦ le
]
before_namesake cs name k i (Some t) h named before = elim (cases_lt k i) [
  | inl lt ↦ absurd (h.1 i before (omega arith, named))
  | inr le ↦ le
]

known : (chain : List ℕ) (i : ℕ) → (has chain i ≡ false → ⊥) → has chain i ≡ true
known chain i miss = elim (has chain i) as (λ b. (b ≡ false → ⊥) → b ≡ true) [
  | true ↦ λ never. refl
  | false ↦ λ never. absurd (never refl)
] miss

passed_after : (cs : List (Option Certificate)) (chain name : List ℕ) (k i : ℕ) → IsNextNamed cs chain name (Some k) → Subject cs name i → i ≤ k → has (chain ++ k ∷ []) i ≡ true
passed_after cs chain name k i next named le = elim (cases_lt i k) [
  | inl lt ↦ old_there chain k i (known chain i (λ new. next.1 i lt (new, named)))
  | inr more ↦ let same : k ≡ i = omega arith in subst (λ n. has (chain ++ k ∷ []) n ≡ true) same (new_there chain k)
]

namesake_at : (cs : List (Option Certificate)) (name : List ℕ) (k t : ℕ) → named_from cs (k + 1) name ≡ Some t → (k + 1 ≤ t) × Subject cs name t
namesake_at cs name k t e = let least : IsLeast (λ n. (k + 1 ≤ n) × Subject cs name n) (Some t) = subst (IsLeast (λ n. (k + 1 ≤ n) × Subject cs name n)) e (named_least cs (k + 1) name) in least.0

-- The cursor of those with the subject of the one that was taken.
rest_moved : (cs : List (Option Certificate)) (start : ℕ) (chain name : List ℕ) (namesakes : List (Option ℕ)) (cursor : Option ℕ) (k : ℕ)
    → ((k : ℕ) → get_or namesakes k None ≡ namesake_of cs k) → has chain start ≡ true → IsRest cs start chain name cursor → skipped namesakes start cursor ≡ Some k
    → IsRest cs start (chain ++ k ∷ []) name (named_from cs (k + 1) name)
rest_moved cs start chain name namesakes cursor k are started rest is =
    let next : IsNextNamed cs chain name (Some k) = subst (IsNextNamed cs chain name) is (next_named cs start chain name namesakes cursor are started rest) in
    record {
      passed = λ i named before. passed_after cs chain name k i next named (before_namesake cs name k i (named_from cs (k + 1) name) (named_least cs (k + 1) name) named before);
      left = λ t i e le named ne.
          let above : k + 1 ≤ t = (namesake_at cs name k t e).0 in
          still_left chain k i (left_after cs start chain name namesakes cursor k i are rest is (omega arith) named ne) (omega arith);
      among = λ t e. (namesake_at cs name k t e).1;
    }

-- The cursor of those with another subject.
rest_kept : (cs : List (Option Certificate)) (start : ℕ) (chain name : List ℕ) (cursor : Option ℕ) (k : ℕ) → (Subject cs name k → ⊥) → IsRest cs start chain name cursor → IsRest cs start (chain ++ k ∷ []) name cursor
rest_kept cs start chain name cursor k other rest = record {
  passed = λ i named before. old_there chain k i (rest.passed i named before);
  left = λ t i e le named ne. still_left chain k i (rest.left t i e le named ne) (λ same. other (subst (Subject cs name) (sym same) named));
  among = rest.among;
}

least_one : (P : ℕ → Type 0) (r s : ℕ) → IsLeast P (Some r) → IsLeast P (Some s) → r ≡ s
least_one P r s h g = elim (cases_lt r s) [
  | inl lt ↦ absurd (g.1 r lt h.0)
  | inr le ↦ elim (cases_lt s r) [
    | inl lt ↦ absurd (h.1 s lt g.0)
    | inr other ↦ omega arith
  ]
]

cursors_moved : (cs : List (Option Certificate)) (start : ℕ) (chain name : List ℕ) (namesakes : List (Option ℕ)) (cursor after : ℕ → Option ℕ) (r k : ℕ)
    → ((k : ℕ) → get_or namesakes k None ≡ namesake_of cs k) → AreCursors cs start chain cursor → IsLeast (Subject cs name) (Some r) → skipped namesakes start (cursor r) ≡ Some k
    → ((s : ℕ) → after s ≡ moved namesakes r (Some k) cursor s) → AreCursors cs start (chain ++ k ∷ []) after
cursors_moved cs start chain name namesakes cursor after r k are state first is moves =
    let rest : IsRest cs start chain name (cursor r) = state.rests name r first in
    let next : IsNextNamed cs chain name (Some k) = subst (IsNextNamed cs chain name) is (next_named cs start chain name namesakes (cursor r) are state.started rest) in
    record {
      started = old_there chain k start state.started;
      rests = λ other s least. subst (IsRest cs start (chain ++ k ∷ []) other) (sym (moves s)) (
          elim (s == r) as (λ b. (s == r) ≡ b → IsRest cs start (chain ++ k ∷ []) other (cond b (get_or namesakes k None) (cursor s))) [
            | true ↦ λ e.
                let same : s ≡ r = tested s r e in
                let one : name ≡ other = same_name cs r name other first.0 (subst (Subject cs other) same least.0) in
                subst (IsRest cs start (chain ++ k ∷ []) other) (sym (are k ∙ namesake_named cs k name next.0.1))
                (subst (λ n. IsRest cs start (chain ++ k ∷ []) n (named_from cs (k + 1) name)) one (rest_moved cs start chain name namesakes (cursor r) k are state.started rest is))
            | false ↦ λ e.
                let apart : Subject cs other k → ⊥ = λ named. untested s r e (least_one (Subject cs other) s r least (subst (λ n. IsLeast (Subject cs n) (Some r)) (same_name cs k name other next.0.1 named) first)) in
                rest_kept cs start chain other (cursor s) k apart (state.rests other s least)
          ] refl
          );
    }

-- ---- a new chain

pub cursors_new : (cs : List (Option Certificate)) (start : ℕ) (cursor : ℕ → Option ℕ) → ((r : ℕ) → cursor r ≡ Some r) → AreCursors cs start (start ∷ []) cursor
cursors_new cs start cursor own = record {
  started = true_or (start == start) false (same_test start start refl);
  rests = λ name r first. subst (λ o. IsRest cs start (start ∷ []) name o) (sym (own r)) (record {
    passed = λ i named before. absurd (first.1 i before named);
    left = λ k i e le named ne. or_is_false (start == i) false (other_test start i (λ same. ne (sym same))) refl;
    among = λ k e. let same : r ≡ k = cc in subst (Subject cs name) same first.0;
  });
}

-- ---- what follows in a chain

pub follows_none : (cs : List (Option Certificate)) (chain : List ℕ) (x : Option (Option Certificate)) → at_issuer (named_from cs 0) x ≡ None → FollowsOne cs chain x None
follows_none cs chain None e = refl
follows_none cs chain (Some None) e = refl
follows_none cs chain (Some (Some c)) e =
    elim (bytes_eq c.issuer c.subject) as (λ b. cond b None (named_from cs 0 c.issuer) ≡ None → MatchBool b (◌≡◌ {A = Option ℕ} None None) (IsNextNamed cs chain c.issuer None)) [
      | true ↦ λ own. refl
      | false ↦ λ none. let least : IsLeast (Subject cs c.issuer) None = subst (IsLeast (Subject cs c.issuer)) none (first_least cs c.issuer) in λ k (new, named). least k named
    ] e

-- the name that the issuer of a certificate has, and its first certificate
pub issuer_first : (cs : List (Option Certificate)) (x : Option (Option Certificate)) (r : ℕ) → at_issuer (named_from cs 0) x ≡ Some r → (name : List ℕ) × IsLeast (Subject cs name) (Some r)
issuer_first cs None r e = absurd (let f : None ≡ Some r = e in cc)
issuer_first cs (Some None) r e = absurd (let f : None ≡ Some r = e in cc)
issuer_first cs (Some (Some c)) r e =
    elim (bytes_eq c.issuer c.subject) as (λ b. cond b None (named_from cs 0 c.issuer) ≡ Some r → (name : List ℕ) × IsLeast (Subject cs name) (Some r)) [
      | true ↦ λ own. absurd (let f : None ≡ Some r = own in cc)
      | false ↦ λ is. (c.issuer, subst (IsLeast (Subject cs c.issuer)) is (first_least cs c.issuer))
    ] e

pub follows_first : (cs : List (Option Certificate)) (start : ℕ) (chain : List ℕ) (namesakes : List (Option ℕ)) (cursor : ℕ → Option ℕ) (x : Option (Option Certificate)) (r : ℕ)
    → ((k : ℕ) → get_or namesakes k None ≡ namesake_of cs k) → AreCursors cs start chain cursor → at_issuer (named_from cs 0) x ≡ Some r → FollowsOne cs chain x (skipped namesakes start (cursor r))
follows_first cs start chain namesakes cursor None r are state e = absurd (let f : None ≡ Some r = e in cc)
follows_first cs start chain namesakes cursor (Some None) r are state e = absurd (let f : None ≡ Some r = e in cc)
follows_first cs start chain namesakes cursor (Some (Some c)) r are state e =
    let o : Option ℕ = skipped namesakes start (cursor r) in
    elim (bytes_eq c.issuer c.subject) as (λ b. cond b None (named_from cs 0 c.issuer) ≡ Some r → MatchBool b (skipped namesakes start (cursor r) ≡ None) (IsNextNamed cs chain c.issuer (skipped namesakes start (cursor r)))) [
      | true ↦ λ own. absurd (let f : None ≡ Some r = own in cc)
      | false ↦ λ is.
          let least : IsLeast (Subject cs c.issuer) (Some r) = subst (IsLeast (Subject cs c.issuer)) is (first_least cs c.issuer) in
          next_named cs start chain c.issuer namesakes (cursor r) are state.started (state.rests c.issuer r least)
    ] e

-- The cursors after what a call returns.
pub cursors_told : (cs : List (Option Certificate)) (start : ℕ) (chain : List ℕ) (namesakes : List (Option ℕ)) (cursor after : ℕ → Option ℕ) (x : Option (Option Certificate)) (r : ℕ) (o : Option ℕ)
    → ((k : ℕ) → get_or namesakes k None ≡ namesake_of cs k) → AreCursors cs start chain cursor → at_issuer (named_from cs 0) x ≡ Some r → o ≡ skipped namesakes start (cursor r)
    → ((s : ℕ) → after s ≡ moved namesakes r o cursor s) → IfSome o (λ k. AreCursors cs start (chain ++ k ∷ []) after)
cursors_told cs start chain namesakes cursor after x r None are state e is moves = tt
cursors_told cs start chain namesakes cursor after x r (Some k) are state e is moves =
    let first = issuer_first cs x r e in cursors_moved cs start chain first.0 namesakes cursor after r k are state first.1 (sym is) moves

-- from what a call that may fail promises of what it returns
pub told : {X E : Type 0} (P Q R : X → Type 0) (r : Result X E) → ((x : X) → P x → Q x → R x) → IfOk r P → IfOk r Q → IfOk r R
told P Q R (Ok x) f p q = f x p q
told P Q R (Err e) f p q = tt

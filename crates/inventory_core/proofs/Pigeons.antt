-- How many numbers are left.
use Rattle.std.proofs.Common.{◌≡◌, ◌<◌, ◌≤◌, ◌+◌, ℕ, zero, suc, List, [], ◌∷◌, ◌++◌, inl, inr, arith, refl, ap, ◌∙◌, subst}
use Rattle.std.specs.Prelude.{Bool, true, false, cond, ◌||◌, ◌==◌}
use Rattle.std.proofs.lemmas.Bool.{cases_lt}
use Rattle.std.proofs.lemmas.Bool.Decides.{nat_tests}
use Rattle.std.proofs.lemmas.List.Folds.{list_any-append}
use Rattle.inventory_core.specs.Chains.{has}

-- how many numbers below n are not in the list
abbrev pub left_out : List ℕ → ℕ → ℕ
left_out ks zero = 0
left_out ks (suc n) = cond (has ks n) 0 1 + left_out ks n

or_false : (b : Bool) → (b || false) ≡ b
or_false true = refl
or_false false = refl

pub has_more : (ks : List ℕ) (k i : ℕ) → has (ks ++ k ∷ []) i ≡ (has ks i || (k == i))
has_more ks k i = list_any-append (λ x. x == i) ks (k ∷ []) ∙ ap (λ b. has ks i || b) (or_false (k == i))

pub same_test : (k i : ℕ) → k ≡ i → (k == i) ≡ true
same_test k i e = grind (arith, nat_tests, e)

pub or_true : (b c : Bool) → c ≡ true → (b || c) ≡ true
or_true true c e = refl
or_true false c e = e

pub true_or : (b c : Bool) → b ≡ true → (b || c) ≡ true
true_or true c e = refl
true_or false c e = absurd cc

-- 1 for a number that is left out
abbrev one_if : Bool → ℕ
one_if b = cond b 0 1

fewer_there : (a b : Bool) → cond (a || b) 0 1 ≤ cond a 0 1
fewer_there true b = omega arith
fewer_there false true = omega arith
fewer_there false false = omega arith

left_out_le : (ks : List ℕ) (k n : ℕ) → left_out (ks ++ k ∷ []) n ≤ left_out ks n
left_out_le ks k zero = omega arith
left_out_le ks k (suc n) = omega (arith, left_out_le ks k n, fewer_there (has ks n) (k == n), ap one_if (has_more ks k n))

-- One number more leaves out fewer.
pub left_out_lt : (ks : List ℕ) (k n : ℕ) → k < n → has ks k ≡ false → left_out (ks ++ k ∷ []) n < left_out ks n
left_out_lt ks k zero lt new = absurd (omega (arith, lt))
left_out_lt ks k (suc n) lt new =
    elim (cases_lt k n) [
      | inl less ↦ omega (arith, left_out_lt ks k n less new, fewer_there (has ks n) (k == n), ap one_if (has_more ks k n))
      | inr more ↦
          let same : k ≡ n = omega arith in
          let there : has (ks ++ k ∷ []) n ≡ true = has_more ks k n ∙ or_true (has ks n) (k == n) (same_test k n same) in
          let gone : has ks n ≡ false = subst (λ i. has ks i ≡ false) same new in
          omega (arith, left_out_le ks k n, ap one_if there, ap one_if gone)
    ]

-- lemmas only: nothing to believe here
-- Facts of each number below a bound, by a test that computes.
use Rattle.std.proofs.Common.{inl, inr, ◌≡◌, ◌∙◌, ◌<◌, ap, ℕ, zero, suc, Bool, true, arith, ◌&&◌}
use Rattle.std.proofs.lemmas.Bool.{and_parts, cases_lt}

abbrev pub all_below : (ℕ → Bool) → ℕ → Bool
all_below p zero = true
all_below p (suc n) = p n && all_below p n

pub all_below_at : (p : ℕ → Bool) (n : ℕ) → all_below p n ≡ true → (k : ℕ) → k < n → p k ≡ true
all_below_at p zero h k lt = absurd (omega arith)
all_below_at p (suc n) h k lt =
    let both = and_parts (p n) (all_below p n) h in
    elim (cases_lt k n) [
      | inl less ↦ all_below_at p n both.1 k less
      | inr more ↦ let e : k ≡ n = omega arith in ap p e ∙ both.0
    ]

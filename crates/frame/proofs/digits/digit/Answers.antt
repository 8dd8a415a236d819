use Rattle.std.proofs.Common.{◌≡◌, ℕ, zero, suc, ◌+◌, ◌*◌, ◌/◌, ◌<◌, ◌==◌, ◌&&◌, Bool, true, inl, inr, slice_index, refl, arith}
use Rattle.std.proofs.lemmas.Bool.{and_parts, cases_lt, eqb-true}
use Rattle.hex.specs.Hex.{lower_digits}
use Rattle.frame.proofs.digits.digit.Goals as goal

-- the test of one value, which computes
abbrev is_digit_of : ℕ → Bool
is_digit_of v = v + 48 + (v + 6) / 16 * 39 == slice_index lower_digits v

-- the test of the first n values
abbrev all_are : ℕ → Bool
all_are zero = true
all_are (suc n) = is_digit_of n && all_are n

at_value : (n v : ℕ) → all_are n ≡ true → v < n → is_digit_of v ≡ true
at_value zero v h lt = absurd (omega arith)
at_value (suc n) v h lt =
    let parts = and_parts (is_digit_of n) (all_are n) h in
    elim (cases_lt v n) [
      | inl below ↦ at_value n v parts.1 below
      | inr top ↦ let e : v ≡ n = omega arith in rw e parts.0
    ]

pub returns : goal.returns
returns c = eqb-true _ _ (at_value 16 c.args.value refl c.requires)

-- The work that is allowed, and what of it was taken.
use Rattle.std.specs.Prelude.{ℕ, ◌+◌, ◌<◌, ◌≤◌, ◌≡◌}
use Rattle.transfer.specs.declared.store.budget.Budget.{Budget}

-- Nothing of the limit is spent yet.
abbrev pub IsUnspent : ℕ → Budget → Type 0
IsUnspent limit budget = (budget.limit ≡ limit) × (budget.spent ≡ 0)

-- A share of n steps was taken.
abbrev pub Spends : Budget → Budget → ℕ → Type 0
Spends old new n = (new.limit ≡ old.limit) × (new.spent ≡ old.spent + n)

-- With a share of n steps the running sum passes the limit.
abbrev pub PassesLimit : Budget → ℕ → Type 0
PassesLimit budget n = budget.limit < budget.spent + n

-- The steps rose by at most what was left.
abbrev pub TakesWithin : Budget → ℕ → ℕ → Type 0
TakesWithin budget old new = (old ≤ new) × (new + budget.spent ≤ old + budget.limit)

-- The opening of a store where no steps are counted for the caller.
use Rattle.std.specs.Prelude.{ℕ, ◌≤◌, List}
use Rattle.p12.specs.declared.safe_bag.SafeBag.{SafeBag}
use Rattle.transfer.specs.declared.store.error.TransferError.{TransferError}
use Rattle.transfer.specs.Opening.{HasVerdict, refused}
use Rattle.transfer.specs.TransferError.{RefusedBy}
use Rattle.transfer.specs.Verdicts.{StoreOpens}

-- the store opens to these bags and keys within the limit
abbrev pub OpensWithin : List ℕ → List ℕ → ℕ → List (List SafeBag) → List (List ℕ) → Type 0
OpensWithin b p limit bags keys = (n : ℕ) × StoreOpens b p bags keys n × (n ≤ limit)

-- the store is refused for e, the first cause, within the limit; or there was no memory
abbrev pub IsRefusedWithin : List ℕ → List ℕ → ℕ → TransferError → Type 0
IsRefusedWithin b p limit =
    RefusedBy (λ e. (n : ℕ) × HasVerdict b p limit (refused e) n × (n ≤ limit)) ⊥

-- What an upgrade writes opens again under the same limit.
use Rattle.std.proofs.Common.{ℕ, List, Option, None}
use Rattle.std.specs.Prelude.{Result, Ok, Err, IfOk}
use Rattle.rekey_core.specs.declared.kinds.Renewal.{Renewal}
use Rattle.store_renewal.specs.Renewals.{RenewedStoresOpen, RenewsOld}
use Rattle.transfer.specs.Opening.{FirstCause}
use Rattle.transfer.specs.declared.store.error.TransferError.{TransferError}

pub reopened : RenewedStoresOpen → (r : Renewal) (b p q : List ℕ) (limit : ℕ) (left after : Option (List ℕ)) (steps steps_after : ℕ) (t : Result (List ℕ) TransferError) → IfOk t (RenewsOld r b p q limit left after steps steps_after)
    → IfOk t (λ c. FirstCause c q r.seal_limit None)
reopened law r b p q limit left after steps steps_after (Ok c) u = (law r b p q limit left after steps steps_after c u).4
reopened law r b p q limit left after steps steps_after (Err e) u = tt

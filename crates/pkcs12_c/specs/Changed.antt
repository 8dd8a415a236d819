-- The change of a store's password, and its upgrade, over random octets that are given.
use Rattle.std.specs.Prelude.{ℕ, ◌≤◌, List, Some}
use Rattle.rekey_core.specs.Rekeyed.{GrowsTooLong, IsRefused, RefusedFor, Rekeys, RunsShort}
use Rattle.rekey_core.specs.Upgraded.{UpgradeRefusedFor}
use Rattle.rekey_core.specs.declared.kinds.Renewal.{Renewal}
use Rattle.rekey_core.specs.declared.kinds.Rounds.{Rounds}
use Rattle.store_renewal.specs.Renewals.{IsOldRefused, OldGrowsTooLong, OldRunsShort, OldSealsTooLong, RenewsOld}
use Rattle.transfer.specs.declared.store.error.TransferError.{TransferError}

-- The store is changed to the text c within the limit, and these random octets are to spare.
abbrev pub ChangesDrawn : List ℕ → List ℕ → List ℕ → ℕ → List ℕ → List ℕ → Type 0
ChangesDrawn b p q limit random c = (spare : List ℕ) × (steps : ℕ)
    × Rekeys b p q limit (Some random) (Some spare) 0 steps c

-- The store is refused for e, the first cause, within the limit; or there was no memory, or there
-- are too few random octets, or the changed store would have more octets than a store may have.
pub record IsRefusedChange (b p : List ℕ) (limit : ℕ) (random : List ℕ) (e : TransferError)
    : Type 0 where
  pub steps : ℕ
  pub within : steps ≤ limit
  pub faults : ℕ
  pub faults_after : ℕ
  pub spare : List ℕ
  pub cause : RefusedFor (IsRefused b p limit 0 steps)
      (RunsShort b p limit (Some random) faults faults_after 0 steps)
      (GrowsTooLong b p limit (Some random) (Some spare) 0 steps) e

-- ---- an upgrade, of a store of today or of an old one

-- so many rounds, where sealing may take no more in all than opening may take steps
abbrev pub renewal : Rounds → ℕ → Renewal
renewal rounds limit = record { rounds = rounds; seal_limit = limit }

-- The store is upgraded to the text c in so many rounds, within the limit, and these random octets
-- are to spare.
abbrev pub UpgradesDrawn : Rounds → List ℕ → List ℕ → List ℕ → ℕ → List ℕ → List ℕ → Type 0
UpgradesDrawn rounds b p q limit random c = (spare : List ℕ) × (steps : ℕ)
    × RenewsOld (renewal rounds limit) b p q limit (Some random) (Some spare) 0 steps c

-- The store is refused for e, the first cause, within the limit; or there was no memory, or there
-- are too few random octets, or the new store would have more octets than a store may have, or take
-- more steps to open than the limit.
pub record IsRefusedUpgrade (rounds : Rounds) (b p : List ℕ) (limit : ℕ) (random : List ℕ)
    (e : TransferError) : Type 0 where
  pub steps : ℕ
  pub within : steps ≤ limit
  pub faults : ℕ
  pub faults_after : ℕ
  pub spare : List ℕ
  pub cause : UpgradeRefusedFor (IsOldRefused b p limit 0 steps)
      (OldSealsTooLong (renewal rounds limit) b p limit 0 steps)
      (OldRunsShort (renewal rounds limit) b p limit (Some random) faults faults_after 0 steps)
      (OldGrowsTooLong (renewal rounds limit) b p limit (Some random) (Some spare) 0 steps) e

-- Which stores the command opens, and why it refuses others.
use Rattle.std.specs.Prelude.{ℕ, ◌≡◌, ◌⊎◌, List, Some}
use Rattle.p12.specs.declared.safe_bag.SafeBag.{SafeBag}
use Rattle.legacy_store.specs.Opening.{FirstCauseUnder, FirstLegacyCause}
use Rattle.legacy_store.specs.Verdicts.{LegacyOpens, OpensUnder}
use Rattle.legacy_store.specs.declared.mac_rule.MacRule.{MacRule}
use Rattle.legacy_store.specs.declared.mac_rule.MacRule.TheVariants.{Required, Optional}
use Rattle.pkcs12_arguments.specs.declared.accepted.Accepted.{Accepted}
use Rattle.pkcs12_arguments.specs.declared.accepted.Accepted.TheVariants.{Modern, Old, WithoutMac}
use Rattle.pkcs12_opening.specs.declared.ending.Ending.{Ending}
use Rattle.pkcs12_opening.specs.declared.ending.Ending.TheVariants.{Memory, Refused}
use Rattle.transfer.specs.Opening.{FirstCause}
use Rattle.transfer.specs.Verdicts.{StoreOpens}
use Rattle.transfer.specs.declared.store.error.TransferError.{TransferError}

-- A store opens to these bags and keys under a password, by so much work: a store of today as
-- `transfer` opens it, an old one as `legacy_store` does, which opens the same and more, and one
-- without a MAC as that does where none is required.
abbrev pub Opens : Accepted → List ℕ → List ℕ → List (List SafeBag) → List (List ℕ) → ℕ → Type 0
Opens Modern store password contents keys work = StoreOpens store password contents keys work
Opens Old store password contents keys work = LegacyOpens store password contents keys work
Opens WithoutMac store password contents keys work =
    OpensUnder Optional store password contents keys work

-- This is the first cause to refuse it.
abbrev pub IsCause : Accepted → List ℕ → List ℕ → ℕ → TransferError → Type 0
IsCause Modern store password limit e = FirstCause store password limit (Some e)
IsCause Old store password limit e = FirstLegacyCause store password limit (Some e)
IsCause WithoutMac store password limit e = FirstCauseUnder Optional store password limit (Some e)

-- The failure of a store that is not opened under its password and the limit: its first cause to be
-- refused, or out of memory.
abbrev pub FailsToOpen : Accepted → List ℕ → List ℕ → ℕ → Ending → Type 0
FailsToOpen accepted store password limit ending = (ending ≡ Memory)
    ⊎ ((e : TransferError) × IsCause accepted store password limit e × (ending ≡ Refused e))

-- which stores are opened under a rule
abbrev pub accepted_by : MacRule → Accepted
accepted_by Required = Old
accepted_by Optional = WithoutMac

-- What the command `rekey` returns: the rows of its own in the table of `frame`.
use Rattle.std.specs.Prelude.{ℕ, ◌*◌, ◌≡◌, List, codes, Option, Result, Ok, Err}
use Rattle.frame.specs.Calls.{Call, Effects}
use Rattle.frame.specs.DueText.{digits_line}
use Rattle.frame.specs.Lined.{lined}
use Rattle.frame.specs.Programs as programs
use Rattle.frame.specs.Programs.{Program}
use Rattle.frame.specs.Stream.{Stream}
use Rattle.frame.specs.declared.status.Status.{Status}
use Rattle.frame.specs.declared.status.Status.TheVariants.{Done}
use Rattle.transfer.specs.Status.{status_of}
use Rattle.transfer.specs.declared.store.error.TransferError.{TransferError}
use Rattle.rekey_core.specs.Changes.{FirstRefusal, RekeysAll, SettledAll, changes}
use Rattle.rekey_core.specs.Words.{Command, IsCommand}

-- Done comes only where the store is changed from each password to the next, and then the text is a
-- line with the store that comes of it.
abbrev pub MakesLine : Command → Effects → List ℕ → List ℕ → Type 0
MakesLine c e store text = (changed : List ℕ)
    × RekeysAll store c.passwords c.limit e.draw.told e.draw.told_after e.steps e.steps_after
    changed
    × (text ≡ digits_line (codes "store ") changed)

-- A refusal is that of the first change that has one.
abbrev pub RefusesStore : Command → Effects → List ℕ → Status → Type 0
RefusesStore c e store s = (cause : TransferError) × (s ≡ status_of cause)
    × FirstRefusal store c.passwords c.limit e.draw.told e.draw.told_after e.draw.faults
    e.draw.faults_after e.steps e.steps_after cause

-- the status of a result
abbrev pub IsStatusOf : Result (List ℕ) TransferError → Status → Type 0
IsStatusOf (Ok c) s = s ≡ Done
IsStatusOf (Err e) s = s ≡ status_of e

-- Each status comes where its cause holds, out of memory apart.
abbrev pub ExactStore : Command → Option (List ℕ) → List ℕ → Status → Type 0
ExactStore c drawn store s = (r : Result (List ℕ) TransferError)
    × SettledAll store c.passwords c.limit drawn r × IsStatusOf r s

-- the most steps of a command: its limit for each change
abbrev pub steps_limit : Command → ℕ
steps_limit c = c.limit * changes c.passwords

-- What the command promises of the stores that inputs spell.
abbrev pub on_stores : List (List ℕ) → Program Command
on_stores words = record {
  IsAsked = IsCommand words;
  Makes = MakesLine;
  Refuses = RefusesStore;
  Exact = λ c e store s. ExactStore c e.draw.told store s;
  limit = steps_limit;
}

-- What a run returns for these arguments, over the call and the output.
abbrev pub Answers : List (List ℕ) → Call → Stream → Status → Type 0
Answers words call output s = programs.Answers (lined (on_stores words)) call output s

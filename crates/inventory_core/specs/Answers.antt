-- What an inventory is, and what the program returns: the rows of its own in the table of `frame`.
use Rattle.std.specs.Prelude.{ℕ, ◌+◌, ◌≡◌, ◌≤◌, List, Some, None}
use Rattle.frame.specs.Calls.{Call, Effects, TakesNoStep}
use Rattle.frame.specs.Programs as programs
use Rattle.frame.specs.Programs.{Program}
use Rattle.frame.specs.Stream.{Stream, stream}
use Rattle.frame.specs.declared.status.Status.{Status}
use Rattle.frame.specs.declared.status.Status.TheVariants.{Done, InputMalformed}
use Rattle.p12.specs.declared.safe_bag.SafeBag.{SafeBag}
use Rattle.transfer.specs.Opening.{FirstCause, HasVerdict, refused}
use Rattle.transfer.specs.Status.{status_of}
use Rattle.transfer.specs.Verdicts.{StoreOpens}
use Rattle.transfer.specs.declared.store.error.TransferError.{TransferError}
use Rattle.inventory_core.specs.InputLine.{IsLine, IsNoLine}
use Rattle.inventory_core.specs.Table.{IsTable}
use Rattle.inventory_core.specs.Words.{Command, IsCommand}

-- The store b opens under the password p and the limit, the steps rise by its work, and the text is
-- its table.
pub record Inventories (b p : List ℕ) (limit steps steps_after : ℕ) (text : List ℕ) : Type 0 where
  pub bags : List (List SafeBag)
  pub keys : List (List ℕ)
  pub work : ℕ
  pub opens : StoreOpens b p bags keys work
  pub within : work ≤ limit
  pub counted : steps_after ≡ steps + work
  pub table : IsTable bags text

-- The store is refused for e, after the steps that were taken.
abbrev pub IsRefused : List ℕ → List ℕ → ℕ → ℕ → ℕ → TransferError → Type 0
IsRefused b p limit steps steps_after e = (n : ℕ) × HasVerdict b p limit (refused e) n
    × (steps_after ≡ steps + n)

-- Done comes only for a line that spells a store with an inventory, and the text is that.
abbrev pub MakesInventory : Command → Effects → List ℕ → List ℕ → Type 0
MakesInventory c e x text = (store : List ℕ) × IsLine x store
    × Inventories store c.password c.limit e.steps e.steps_after text

-- InputMalformed comes only for an input that is no line, and then no step is taken. Any other
-- refusal comes only for the first cause to refuse the store, and after exactly the steps of that
-- cause.
abbrev pub RefusesInventory : Command → Effects → List ℕ → Status → Type 0
RefusesInventory c e x InputMalformed = IsNoLine x × TakesNoStep e
RefusesInventory c e x s = (store : List ℕ) × IsLine x store
    × ((cause : TransferError) × (s ≡ status_of cause)
    × IsRefused store c.password c.limit e.steps e.steps_after cause)

-- Each status comes where its row holds, out of memory apart.
pub record ExactInventory (c : Command) (x : List ℕ) (s : Status) : Type 0 where
  -- an input that is no line
  pub malformed : IsNoLine x → s ≡ InputMalformed
  -- a store that a cause refuses: the status of the first cause
  pub refuses : (store : List ℕ) (e : TransferError) → IsLine x store
      → FirstCause store c.password c.limit (Some e) → s ≡ status_of e
  -- a store that no cause refuses
  pub completes : (store : List ℕ) → IsLine x store → FirstCause store c.password c.limit None
      → s ≡ Done

-- What the program promises for these arguments.
abbrev pub on_lines : List (List ℕ) → Program Command
on_lines words = record {
  IsAsked = IsCommand words;
  Makes = MakesInventory;
  Refuses = RefusesInventory;
  Exact = λ c e x s. ExactInventory c x s;
  limit = λ c. c.limit;
}

-- It draws nothing.
abbrev pub no_draw : Stream
no_draw = stream None None 0 0

-- What a run returns for these arguments, over the call and the output.
abbrev pub Answers : List (List ℕ) → Call → Stream → Status → Type 0
Answers words call output s = programs.Answers (on_lines words) call output s

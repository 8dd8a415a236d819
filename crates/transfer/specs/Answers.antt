-- What the command `transfer` returns: the rows of its own in the table of `frame`.
use Rattle.std.specs.Prelude.{ℕ, ◌*◌, ◌≡◌, ◌⊎◌, ◌<◌, ◌≤◌, List, length, Option, Some, None, IfSome}
use Rattle.frame.specs.Calls.{Call, Effects}
use Rattle.frame.specs.Lined.{lined}
use Rattle.frame.specs.Programs as programs
use Rattle.frame.specs.Programs.{Program}
use Rattle.frame.specs.Stream.{Stream}
use Rattle.frame.specs.declared.status.Status.{Status}
use Rattle.frame.specs.declared.status.Status.TheVariants.{Done, Rng}
use Rattle.p12.specs.declared.safe_bag.SafeBag.{SafeBag}
use Rattle.transfer.specs.declared.store.error.TransferError.{TransferError}
use Rattle.transfer.specs.DueText.{out}
use Rattle.transfer.specs.Opening.{HasVerdict, FirstCause, opened}
use Rattle.transfer.specs.Status.{status_of}
use Rattle.transfer.specs.Transferred.{IsRefused, RunsShort, Transfers}
use Rattle.transfer.specs.Words.{Command, IsCommand}

-- Done comes only where no cause refuses the store, and after exactly its work; then the text is
-- that of its certificates in order and of a document for each of its keys.
abbrev pub TransfersStore : Command → Effects → List ℕ → List ℕ → Type 0
TransfersStore c e store text = (certificates : List (List ℕ)) × (documents : List (List ℕ))
    × Transfers c e store certificates documents × (text ≡ out certificates documents)

-- Of a command, a store and the octets to be drawn there is one such text.
abbrev pub OneText : Type 0
OneText = (c : Command) (e f : Effects) (store drawn t u : List ℕ) → e.draw.told ≡ Some drawn
    → f.draw.told ≡ Some drawn
    → TransfersStore c e store t → TransfersStore c f store u → t ≡ u

-- Rng comes only where no cause refuses the store, after exactly its work, and the octets to be
-- drawn do not suffice. Any other refusal comes only where it is the first cause, and after exactly
-- the steps of that cause.
abbrev pub RefusesStore : Command → Effects → List ℕ → Status → Type 0
RefusesStore c e store Rng = RunsShort c e store
RefusesStore c e store s = (cause : TransferError) × (s ≡ status_of cause)
    × IsRefused c e store cause

-- Of a command, a store and the octets to be drawn: each status comes where its row holds, running
-- out of memory apart.
pub record ExactStore (c : Command) (drawn : Option (List ℕ)) (store : List ℕ) (s : Status)
    : Type 0 where
  -- a store that a cause refuses: the status of the first cause
  pub refuses : (e : TransferError) → FirstCause store c.password c.limit (Some e) → s ≡ status_of e
  -- a store that no cause refuses: Done, unless the draw fails
  pub completes : FirstCause store c.password c.limit None → (s ≡ Done) ⊎ (s ≡ Rng)
  -- and, where the octets to be drawn are told, Done exactly where there are 32 for each key
  pub draws : (bags : List (List SafeBag)) (keys : List (List ℕ)) (n : ℕ)
      → HasVerdict store c.password c.limit (opened bags keys) n
      → IfSome drawn (λ d. (length d < 32 * length keys → s ≡ Rng)
      × (32 * length keys ≤ length d → s ≡ Done))

-- What the command promises of the stores that inputs spell.
abbrev pub on_stores : List (List ℕ) → Program Command
on_stores words = record {
  IsAsked = IsCommand words;
  Makes = TransfersStore;
  Refuses = RefusesStore;
  Exact = λ c e store s. ExactStore c e.draw.told store s;
  limit = λ c. c.limit;
}

-- What a run returns for these arguments, over the call and the output: InputMalformed where the
-- input spells no store, and else what the command promises of the store that it spells, under the
-- octets of its second line, or of the draw where there is none.
abbrev pub Answers : List (List ℕ) → Call → Stream → Status → Type 0
Answers words call output s = programs.Answers (lined (on_stores words)) call output s

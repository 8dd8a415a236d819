-- A call of a program, over the objects of the outside.
use Rattle.std.specs.Prelude.{ℕ, ◌+◌, ◌≡◌, ◌≤◌, List, length, IfSome}
use Rattle.std.specs.Io.KnownBytes.{Appends, IsAtEnd}
use Rattle.octet_core.specs.Faults.{Rose}
use Rattle.frame.specs.DueText.{AppendsPart}
use Rattle.frame.specs.Input.{input_limit}
use Rattle.frame.specs.Stream.{Stream}
use Rattle.frame.specs.declared.status.Status.{Status}
use Rattle.frame.specs.declared.status.Status.TheVariants.{WriteFault}

-- What a piece of work did to the draw and to the steps.
pub record Effects : Type 0 where
  pub draw : Stream
  pub steps : ℕ
  pub steps_after : ℕ

abbrev pub effects : Stream → ℕ → ℕ → Effects
effects draw steps steps_after = record { draw = draw; steps = steps; steps_after = steps_after }

-- What a call did to the input, and what its work did.
pub record Call : Type 0 where
  pub input : Stream
  pub work : Effects

abbrev pub call_of : Stream → Stream → ℕ → ℕ → Call
call_of input draw steps steps_after =
    record { input = input; work = effects draw steps steps_after }

-- No step was taken.
abbrev pub TakesNoStep : Effects → Type 0
TakesNoStep e = e.steps_after ≡ e.steps

-- The steps rise by at most the limit.
abbrev pub KeepsLimit : Effects → ℕ → Type 0
KeepsLimit e limit = (e.steps ≤ e.steps_after) × (e.steps_after ≤ e.steps + limit)

-- The source was read to its end; what it had is a text of at most the limit's octets, and P of
-- that text.
abbrev pub IsRead : Stream → (List ℕ → Type 0) → Type 0
IsRead input P = IsAtEnd input.told_after
    × ((x : List ℕ) × IfSome input.told (λ y. x ≡ y) × (length x ≤ input_limit) × P x)

-- What a decision's text was written as: whole under its status, where no write failed, or in part
-- where one did.
pub data IsWritten (output : Stream) (due : Status) (text : List ℕ) (s : Status) : Type 0 where
  whole : s ≡ due → output.faults_after ≡ output.faults → Appends output.told output.told_after text
      → IsWritten output due text s
  cut : s ≡ WriteFault → Rose output.faults output.faults_after
      → AppendsPart output.told output.told_after text → IsWritten output due text s

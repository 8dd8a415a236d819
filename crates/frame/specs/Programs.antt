-- What a program returns: each status comes only where its row of the table holds, and where that
-- row holds it comes.
use Rattle.std.specs.Prelude.{ℕ, ◌≡◌, ◌≢◌, ◌⊎◌, ◌<◌, ◌≤◌, List, length, Option, Some, IfSome, ⊤}
use Rattle.std.specs.Io.KnownBytes.{Appends}
use Rattle.octet_core.specs.Faults.{Rose}
use Rattle.frame.specs.Calls.{Call, Effects, IsRead, KeepsLimit, TakesNoStep}
use Rattle.frame.specs.DueText.{AppendsPart}
use Rattle.frame.specs.Input.{TakesAtMost, input_limit, taken_limit}
use Rattle.frame.specs.Status.{Kind, done, usage, read_fault, write_fault, too_long, memory, own, error_text, kind_of}
use Rattle.frame.specs.Stream.{Stream}
use Rattle.frame.specs.declared.status.Status.{Status}
use Rattle.frame.specs.declared.status.Status.TheVariants.{Done, Usage, ReadFault, WriteFault, InputTooLong, Memory, Rng}

-- What a program promises for each of its commands, which are of a type C.
pub record Program (C : Type 0) : Type 1 where
  -- The arguments are those of this command.
  pub IsAsked : C → Type 0
  -- The work on an input ends so, with this text.
  pub Makes : C → Effects → List ℕ → List ℕ → Type 0
  -- The work on an input ends so, with this refusal.
  pub Refuses : C → Effects → List ℕ → Status → Type 0
  -- This status may come for an input, running out of memory apart.
  pub Exact : C → Effects → List ℕ → Status → Type 0
  -- The most steps of the work.
  pub limit : C → ℕ

-- The program of one job, or of none.
abbrev pub asks : {J : Type 0} → Option J → (J → Effects → List ℕ → List ℕ → Type 0)
    → (J → Effects → List ℕ → Status → Type 0) → (J → Effects → List ℕ → Status → Type 0)
    → (J → ℕ) → Program J
asks asked makes refuses exact limit = record {
  IsAsked = λ j. asked ≡ Some j;
  Makes = makes;
  Refuses = refuses;
  Exact = exact;
  limit = limit;
}

-- ---- The table

-- The arguments are those of some command, and P of it.
abbrev pub ForCommand : {C : Type 0} → Program C → (C → Type 0) → Type 0
ForCommand {C} p P = (c : C) × p.IsAsked c × P c

-- The arguments are those of no command.
abbrev pub IsNoCommand : {C : Type 0} → Program C → Type 0
IsNoCommand {C} p = (c : C) → p.IsAsked c → ⊥

-- The rows of the statuses other than Done, for a command.
abbrev pub CommandRow : {C : Type 0} → Program C → Call → Status → Kind → C → Type 0
CommandRow p call s done c = ⊥
CommandRow p call s usage c = ⊥
CommandRow p call s read_fault c = Rose call.input.faults call.input.faults_after
    × TakesNoStep call.work
CommandRow p call s write_fault c = ⊥
CommandRow p call s too_long c = IfSome call.input.told (λ x. input_limit < length x)
    × TakesNoStep call.work
CommandRow p call s memory c = ⊤
CommandRow p call s own c = IsRead call.input (λ x. p.Refuses c call.work x s)

-- A status other than Done comes only where this holds.
abbrev pub CauseRow : {C : Type 0} → Program C → Call → Status → Kind → Type 0
CauseRow p call s usage = IsNoCommand p
CauseRow p call s k = ForCommand p (CommandRow p call s k)

-- Done comes only where this holds of the text that is due.
abbrev pub MakesText : {C : Type 0} → Program C → Call → List ℕ → Type 0
MakesText p call text = ForCommand p (λ c. IsRead call.input (λ x. p.Makes c call.work x text))

abbrev pub DueRow : {C : Type 0} → Program C → Call → Status → List ℕ → Kind → Type 0
DueRow p call s text done = MakesText p call text
DueRow p call s text k = CauseRow p call s k × (text ≡ error_text s)

-- This status is allowed for the arguments and the call, and this text is due for it.
abbrev pub Due : {C : Type 0} → Program C → Call → Status → List ℕ → Type 0
Due p call s text = DueRow p call s text (kind_of s)

-- ---- Where each status has to come

-- The arguments are this command's, and the source told that it had these octets; its count of
-- faults neither rose nor is at its last value.
pub record IsGiven {C : Type 0} (p : Program C) (call : Call) (c : C) (x : List ℕ) : Type 0 where
  pub command : p.IsAsked c
  pub told : call.input.told ≡ Some x
  pub unfailed : Rose call.input.faults call.input.faults_after → ⊥

-- The result is this one, or running out of memory.
abbrev pub IsAnswer : Status → Status → Type 0
IsAnswer s due = (s ≡ due) ⊎ (s ≡ Memory)

-- Of an input: one of more octets than the limit is refused, and to another the result is one of
-- those that may come.
pub record IsExact (May : Status → Type 0) (x : List ℕ) (s : Status) : Type 0 where
  pub too_long : input_limit < length x → IsAnswer s InputTooLong
  pub worked : length x ≤ input_limit → May s ⊎ (s ≡ Memory)

-- ---- A run

-- What a run returns, over the call and the output.
pub record Answers {C : Type 0} (p : Program C) (call : Call) (output : Stream) (s : Status)
    : Type 0 where
  -- Usage comes exactly where the arguments are no command's.
  pub usage : IsNoCommand p → (s ≡ Usage) ⊎ (s ≡ WriteFault)
  pub usage_only : s ≡ Usage → IsNoCommand p
  -- ReadFault and WriteFault come only where the object's count of faults rose, or is at its last
  -- value.
  pub read_fault : s ≡ ReadFault → Rose call.input.faults call.input.faults_after
  pub write_fault : s ≡ WriteFault → Rose output.faults output.faults_after
  -- Where the source's count rose, a read failed, the result is ReadFault.
  pub failed_read : call.input.faults < call.input.faults_after → (s ≡ ReadFault) ⊎ (s ≡ WriteFault)
  -- Where the draw's count rose, a draw failed, the result is Rng.
  pub failed_draw : call.work.draw.faults < call.work.draw.faults_after
      → (s ≡ Rng) ⊎ (s ≡ WriteFault)
  -- Where the sink's count rose, a write failed, the result is WriteFault.
  pub failed_write : output.faults < output.faults_after → s ≡ WriteFault
  -- No count falls.
  pub counts : (call.input.faults ≤ call.input.faults_after)
      × (call.work.draw.faults ≤ call.work.draw.faults_after)
      × (output.faults ≤ output.faults_after)
  -- Of the input the limit's octets are taken at most, and one piece more.
  pub taken : TakesAtMost call.input.told call.input.told_after taken_limit
  -- InputTooLong comes only where more octets than the limit are in the input.
  pub too_long : s ≡ InputTooLong → IfSome call.input.told (λ x. input_limit < length x)
  -- After these two no step was taken.
  pub unworked : (s ≡ ReadFault) ⊎ (s ≡ InputTooLong) → TakesNoStep call.work
  -- Each of the program's own refusals comes only where the input was read to its end, and for its
  -- cause.
  pub refused : kind_of s ≡ own
      → ForCommand p (λ c. IsRead call.input (λ x. p.Refuses c call.work x s))
  -- Done comes only where the input was read to its end and the work on it ended so; then the
  -- output grew by its text.
  pub done : s ≡ Done → (text : List ℕ) × MakesText p call text
      × Appends output.told output.told_after text
  -- On each status but WriteFault the text that is due for it was written, and on WriteFault a
  -- proper prefix of the text that is due for a status that this call allows.
  pub written : s ≢ WriteFault
      → (text : List ℕ) × Due p call s text × Appends output.told output.told_after text
  pub part : s ≡ WriteFault
      → (t : Status) × (text : List ℕ) × Due p call t text
      × AppendsPart output.told output.told_after text
  -- Where the source tells its octets, and no read failed, the result is one that may come, or
  -- WriteFault.
  pub exact : (c : C) (x : List ℕ) → IsGiven p call c x
      → (s ≡ WriteFault) ⊎ IsExact (p.Exact c call.work x) x s
  -- The steps rise by at most the limit.
  pub at_most : (c : C) → p.IsAsked c → KeepsLimit call.work (p.limit c)

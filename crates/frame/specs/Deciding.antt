-- What a program decides before it writes.
use Rattle.std.specs.Prelude.{ℕ, ◌≡◌, ◌<◌, ◌≤◌, List}
use Rattle.frame.specs.Calls.{Call, KeepsLimit}
use Rattle.frame.specs.Input.{TakesAtMost, taken_limit}
use Rattle.frame.specs.Programs.{Due, IsExact, IsGiven, IsNoCommand, Program}
use Rattle.frame.specs.declared.status.Status.{Status}
use Rattle.frame.specs.declared.status.Status.TheVariants.{Usage, ReadFault, Rng}

-- The status, and the text that is due for it.
pub record Decides {C : Type 0} (p : Program C) (call : Call) (s : Status) (text : List ℕ)
    : Type 0 where
  pub usage : IsNoCommand p → s ≡ Usage
  pub due : Due p call s text
  pub failed_read : call.input.faults < call.input.faults_after → s ≡ ReadFault
  pub failed_draw : call.work.draw.faults < call.work.draw.faults_after → s ≡ Rng
  pub counts : (call.input.faults ≤ call.input.faults_after)
      × (call.work.draw.faults ≤ call.work.draw.faults_after)
  pub taken : TakesAtMost call.input.told call.input.told_after taken_limit
  pub exact : (c : C) (x : List ℕ) → IsGiven p call c x → IsExact (p.Exact c call.work x) x s
  pub at_most : (c : C) → p.IsAsked c → KeepsLimit call.work (p.limit c)

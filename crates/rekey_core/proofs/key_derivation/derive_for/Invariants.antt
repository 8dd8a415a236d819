use Rattle.std.proofs.Common.{length}
use Rattle.rekey_core.proofs.Deriving.{RunsOn}
use Rattle.rekey_core.proofs.key_derivation.derive_for.Given as goal

abbrev pub invariant-loop-first : goal.invariant-loop-first
invariant-loop-first l = RunsOn l.initial.rest l.rest l.new l.derived

abbrev pub decreases-loop-first : goal.decreases-loop-first
decreases-loop-first l = length l.rest

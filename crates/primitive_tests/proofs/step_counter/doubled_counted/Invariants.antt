use Rattle.std.proofs.Common.{◌≡◌, ◌+◌}
use Rattle.primitive_tests.proofs.step_counter.doubled_counted.Given as goal

abbrev pub invariant-loop-time : goal.invariant-loop-time
invariant-loop-time g l = l.steps ≡ l.initial.steps + l._time

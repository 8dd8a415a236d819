use Rattle.std.proofs.Common.{◌≡◌, ◌+◌}
use Rattle.legacy_store.proofs.scrypt_text.count_steps.Given as goal

abbrev pub invariant-loop-step : goal.invariant-loop-step
invariant-loop-step g l = l.steps ≡ l.fn.steps + l._step

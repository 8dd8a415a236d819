use Rattle.std.proofs.Common.{◌≡◌, ◌+◌, length}
use Rattle.transfer.specs.Opening.{all_shrouded}
use Rattle.rekey_core.proofs.sealing_limit.without_all_keys.Given as goal

abbrev pub invariant-loop-held : goal.invariant-loop-held
invariant-loop-held l = l.parts + length (all_shrouded l.rest) ≡ l.left + length (all_shrouded l.bags)

abbrev pub decreases-loop-held : goal.decreases-loop-held
decreases-loop-held l = length l.rest

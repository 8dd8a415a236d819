use Rattle.std.proofs.Common.{◌≡◌, ◌+◌, length}
use Rattle.transfer.specs.Opening.{shrouded_among}
use Rattle.rekey_core.proofs.sealing_limit.without_keys.Given as goal

abbrev pub invariant-loop-bag : goal.invariant-loop-bag
invariant-loop-bag l = l.parts + length (shrouded_among l.rest) ≡ l.left + length (shrouded_among l.bags)

abbrev pub decreases-loop-bag : goal.decreases-loop-bag
decreases-loop-bag l = length l.rest

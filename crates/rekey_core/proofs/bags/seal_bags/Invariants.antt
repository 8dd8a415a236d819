use Rattle.std.proofs.Common.{length}
use Rattle.rekey_core.proofs.Supplying.{BagsOn}
use Rattle.rekey_core.proofs.bags.seal_bags.Given as goal

abbrev pub invariant-loop-bag : goal.invariant-loop-bag
invariant-loop-bag l = BagsOn l.to l.new l.bags l.rest l.fn.supply.keys.now l.supply.keys.now l.fn.supply.drawn.now l.supply.drawn.now l.made

abbrev pub decreases-loop-bag : goal.decreases-loop-bag
decreases-loop-bag l = length l.rest

use Rattle.std.proofs.Common.{length}
use Rattle.rekey_core.proofs.Supplying.{ContentsOn}
use Rattle.rekey_core.proofs.contents.seal_contents.Given as goal

abbrev pub invariant-loop-content : goal.invariant-loop-content
invariant-loop-content l = ContentsOn l.to l.new l.contents l.rest l.bags l.rest_bags l.fn.supply.keys.now l.supply.keys.now l.fn.supply.drawn.now l.supply.drawn.now l.made

abbrev pub decreases-loop-content : goal.decreases-loop-content
decreases-loop-content l = length l.rest

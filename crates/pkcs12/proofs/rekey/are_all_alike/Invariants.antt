use Rattle.std.proofs.Common.{length}
use Rattle.pkcs12.proofs.rekey.are_all_alike.Given as goal

abbrev pub decreases-loop-bag : goal.decreases-loop-bag
decreases-loop-bag l = length l.bags.left

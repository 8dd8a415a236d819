use Rattle.std.proofs.Common.{length}
use Rattle.pkcs12_certificates.proofs.listed.add_bags.Given as goal

abbrev pub decreases-loop-bag : goal.decreases-loop-bag
decreases-loop-bag l = length l.bags.left

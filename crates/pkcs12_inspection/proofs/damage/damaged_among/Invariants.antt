use Rattle.std.proofs.Common.{length}
use Rattle.pkcs12_inspection.proofs.damage.damaged_among.Given as goal

abbrev pub decreases-loop-content : goal.decreases-loop-content
decreases-loop-content l = length l.contents.left

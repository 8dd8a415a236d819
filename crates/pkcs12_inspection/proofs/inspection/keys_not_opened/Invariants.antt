use Rattle.std.proofs.Common.{length}
use Rattle.pkcs12_inspection.proofs.inspection.keys_not_opened.Given as goal

abbrev pub decreases-loop-content : goal.decreases-loop-content
decreases-loop-content l = length l.contents.left

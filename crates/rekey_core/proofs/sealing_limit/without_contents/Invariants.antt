use Rattle.std.proofs.Common.{◌≡◌, ◌+◌, length}
use Rattle.std.specs.List.{sum_by}
use Rattle.rekey_core.specs.Renewed.{encrypted_in}
use Rattle.rekey_core.proofs.sealing_limit.without_contents.Given as goal

abbrev pub invariant-loop-content : goal.invariant-loop-content
invariant-loop-content l = l.parts + sum_by encrypted_in l.rest ≡ l.left + sum_by encrypted_in l.contents

abbrev pub decreases-loop-content : goal.decreases-loop-content
decreases-loop-content l = length l.rest

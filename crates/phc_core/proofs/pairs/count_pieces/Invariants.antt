use Rattle.std.specs.Str.{IsUtf8}
use Rattle.std.proofs.Common.{◌≡◌, ◌+◌, ◌≤◌, length}
use Rattle.phc_core.specs.ParamsString.{pieces}
use Rattle.phc_core.proofs.pairs.count_pieces.Given as goal

abbrev pub invariant-loop-more : goal.invariant-loop-more
invariant-loop-more l = IsUtf8 l.rest × (l.count + length (pieces l.rest) ≡ length (pieces l.fn.text) + 1) × (l.count + length l.rest ≤ length l.fn.text + 1)

abbrev pub decreases-loop-more : goal.decreases-loop-more
decreases-loop-more l = length l.rest

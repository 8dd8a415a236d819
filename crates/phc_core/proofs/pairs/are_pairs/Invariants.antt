use Rattle.std.specs.Str.{IsUtf8}
use Rattle.std.proofs.Common.{length}
use Rattle.phc_core.specs.ParamsString.{ArePairs, pieces}
use Rattle.phc_core.proofs.pairs.are_pairs.Given as goal

abbrev pub invariant-loop-piece : goal.invariant-loop-piece
invariant-loop-piece l = IsUtf8 l.rest × (ArePairs (pieces l.rest) → ArePairs (pieces l.fn.text)) × (ArePairs (pieces l.fn.text) → ArePairs (pieces l.rest))

abbrev pub decreases-loop-piece : goal.decreases-loop-piece
decreases-loop-piece l = length l.rest

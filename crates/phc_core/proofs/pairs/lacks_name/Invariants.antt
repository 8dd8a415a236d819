use Rattle.std.specs.Str.{IsUtf8}
use Rattle.std.proofs.Common.{length}
use Rattle.phc_core.specs.ParamsString.{LacksName, pieces}
use Rattle.phc_core.proofs.pairs.lacks_name.Given as goal

abbrev pub invariant-loop-piece : goal.invariant-loop-piece
invariant-loop-piece l = IsUtf8 l.rest × (LacksName l.fn.name (pieces l.rest) → LacksName l.fn.name (pieces l.fn.text)) × (LacksName l.fn.name (pieces l.fn.text) → LacksName l.fn.name (pieces l.rest))

abbrev pub decreases-loop-piece : goal.decreases-loop-piece
decreases-loop-piece l = length l.rest

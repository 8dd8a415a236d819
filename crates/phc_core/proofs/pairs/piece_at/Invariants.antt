use Rattle.std.specs.Str.{IsUtf8}
use Rattle.std.proofs.Common.{◌≡◌, ◌<◌, length, drop}
use Rattle.phc_core.specs.ParamsString.{pieces}
use Rattle.phc_core.proofs.pairs.piece_at.Given as goal

abbrev pub invariant-loop-k : goal.invariant-loop-k
invariant-loop-k l = IsUtf8 l.rest × (l.k < length (pieces l.fn.text)) × (pieces l.rest ≡ drop l.k (pieces l.fn.text))

use Rattle.std.proofs.Common.{lit<}
use Rattle.std.proofs.lemmas.Str.Pattern.{split_parts}
use Rattle.phc_core.proofs.Pieces.{first_parts}
use Rattle.phc_core.proofs.pairs.first_piece.Goals as goal

pub returns : goal.returns
returns c = first_parts c.args.text.now c.split_once.result (split_parts 44 c.args.text.now c.split_once.result c.split_once.ensures.cases (lit< tt))

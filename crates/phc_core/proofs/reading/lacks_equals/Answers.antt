use Rattle.std.proofs.Common.{lit<, refl}
use Rattle.std.proofs.lemmas.Str.Pattern.{contains_char}
use Rattle.phc_core.proofs.Pieces.{lacks_by}
use Rattle.phc_core.proofs.reading.lacks_equals.Goals as goal

pub returns : goal.returns
returns c = lacks_by 61 _ _ _ (contains_char 61 _ c.contains.result c.contains.ensures.cases (lit< tt)) refl

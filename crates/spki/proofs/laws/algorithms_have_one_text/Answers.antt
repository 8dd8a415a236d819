use Rattle.spki.proofs.Spellings.{algorithms_spelled}
use Rattle.spki.proofs.laws.algorithms_have_one_text.Goals as goal

pub returns : goal.returns
returns c = algorithms_spelled

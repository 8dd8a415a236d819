use Rattle.spki.proofs.Spellings.{one_algorithm}
use Rattle.spki.proofs.laws.texts_have_one_algorithm.Goals as goal

pub returns : goal.returns
returns c = one_algorithm

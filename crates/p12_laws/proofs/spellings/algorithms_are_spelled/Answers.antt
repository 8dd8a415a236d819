use Rattle.p12_laws.proofs.Spelled.{algorithm_spelled}
use Rattle.p12_laws.proofs.spellings.algorithms_are_spelled.Goals as goal

pub returns : goal.returns
returns c = algorithm_spelled

use Rattle.spki.specs.Seen.{owned_any}
use Rattle.spki.proofs.Spellings.{algorithm_written}
use Rattle.spki.proofs.laws.algorithms_are_written.Goals as goal

pub returns : goal.returns
returns c = algorithm_written owned_any c.args.algorithm.now.oid c.args.algorithm.now.parameters

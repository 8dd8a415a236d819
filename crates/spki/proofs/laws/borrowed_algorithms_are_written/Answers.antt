use Rattle.spki.specs.Seen.{borrowed_any}
use Rattle.spki.proofs.Spellings.{algorithm_written}
use Rattle.spki.proofs.laws.borrowed_algorithms_are_written.Goals as goal

pub returns : goal.returns
returns c = algorithm_written borrowed_any c.args.algorithm.now.oid c.args.algorithm.now.parameters

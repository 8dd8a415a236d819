use Rattle.spki.specs.AnyLaws.{parses_algorithm}
use Rattle.spki.proofs.algorithm.read_whole.Goals as goal

pub returns : goal.returns
returns c = parses_algorithm _ c.args.bytes.now c.from_der.result c.from_der.ensures

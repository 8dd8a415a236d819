use Rattle.pkcs5.proofs.pbes1.algorithm.AlgorithmDecodeValueRefSliceU8.decode_value.Goals as goal
use Rattle.pkcs5.specs.Reading.{pbe_in}

pub returns-clause-read : goal.returns-clause-read
returns-clause-read g c = c.read_algorithm_as.ensures.read pbe_in (λ a r h. h)

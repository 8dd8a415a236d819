use Rattle.pkcs5.proofs.pbes2.kdf.KdfDecodeValueRefSliceU8.decode_value.Goals as goal
use Rattle.pkcs5.specs.Reading.{kdf_in}

pub returns-clause-read : goal.returns-clause-read
returns-clause-read g c = c.read_algorithm_as.ensures.read kdf_in (λ a r h. h)

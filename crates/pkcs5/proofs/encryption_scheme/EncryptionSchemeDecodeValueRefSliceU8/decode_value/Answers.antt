use Rattle.pkcs5.proofs.encryption_scheme.EncryptionSchemeDecodeValueRefSliceU8.decode_value.Goals as goal
use Rattle.pkcs5.specs.Reading.{scheme_in}

pub returns-clause-read : goal.returns-clause-read
returns-clause-read g c = c.read_algorithm_as.ensures.read scheme_in (λ a r h. h)

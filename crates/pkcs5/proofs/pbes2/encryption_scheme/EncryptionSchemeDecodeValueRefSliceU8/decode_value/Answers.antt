use Rattle.pkcs5.proofs.pbes2.encryption_scheme.EncryptionSchemeDecodeValueRefSliceU8.decode_value.Goals as goal
use Rattle.pkcs5.specs.Reading.{cipher_in}

pub returns-clause-read : goal.returns-clause-read
returns-clause-read g c = c.read_algorithm_as.ensures.read cipher_in (λ a r h. h)

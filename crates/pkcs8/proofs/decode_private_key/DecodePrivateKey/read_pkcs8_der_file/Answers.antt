use Rattle.spki.specs.KeyLaws.{file_refused}
use Rattle.pkcs8.specs.Seen.{IsPrivateKey}
use Rattle.pkcs8.proofs.KeyTypes.{key_in_file}
use Rattle.pkcs8.proofs.decode_private_key.DecodePrivateKey.read_pkcs8_der_file.Goals as goal

pub returns-in-Ok-clause-ok : goal.returns-in-Ok-clause-ok
returns-in-Ok-clause-ok g c =
    key_in_file g.Self.DecodePrivateKey.holds c.as_bytes.result.now c.from_pkcs8_der.result c.from_pkcs8_der.ensures.ok

pub returns-in-Ok-clause-err : goal.returns-in-Ok-clause-err
returns-in-Ok-clause-err g c =
    file_refused _ _ _ _ IsPrivateKey g.Self.DecodePrivateKey.refuses c.as_bytes.result.now c.from_pkcs8_der.result c.from_pkcs8_der.ensures.err

use Rattle.spki.specs.KeyLaws.{file_found, file_refused}
use Rattle.spki.specs.Seen.{IsPublicKey}
use Rattle.spki.proofs.decode_public_key.DecodePublicKey.read_public_key_der_file.Goals as goal

pub returns-in-Ok-clause-ok : goal.returns-in-Ok-clause-ok
returns-in-Ok-clause-ok g c =
    file_found IsPublicKey g.Self.DecodePublicKey.holds c.as_bytes.result.now c.from_public_key_der.result c.from_public_key_der.ensures.ok

pub returns-in-Ok-clause-err : goal.returns-in-Ok-clause-err
returns-in-Ok-clause-err g c =
    file_refused _ _ _ _ IsPublicKey g.Self.DecodePublicKey.refuses c.as_bytes.result.now c.from_public_key_der.result c.from_public_key_der.ensures.err

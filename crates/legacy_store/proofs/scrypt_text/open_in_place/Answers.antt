use Rattle.std.proofs.Common.{arith}
use Rattle.pkcs5.specs.OpeningLaws.{opened_some}
use Rattle.legacy_store.proofs.ScryptCosts.{opens_none}
use Rattle.legacy_store.proofs.scrypt_text.open_in_place.Goals as goal

pub returns-in-Ok-clause-some : goal.returns-in-Ok-clause-some
returns-in-Ok-clause-some g c =
    (omega (arith, c.in-Ok.ensures.behind.0, c.decrypt_in_place_len.auto.buffer), opened_some c.args.parameters.now c.args.password.now c.args.buffer.now _ c.in-Ok.ensures.ok.1)

pub returns-in-Err-DecryptFailed-clause-none : goal.returns-in-Err-DecryptFailed-clause-none
returns-in-Err-DecryptFailed-clause-none g c =
    opens_none c.args.parameters.now c.args.password.now c.args.buffer.now c.in-Err-DecryptFailed.field-0 c.in-Err-DecryptFailed.field-0-is c.in-Err-DecryptFailed.ensures.err

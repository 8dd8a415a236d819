use Rattle.std.proofs.lemmas.Result.{err_from_is_err_and}
use Rattle.pkcs8.specs.EncryptedPrivateKeyInfo.{encrypted_key}
use Rattle.pkcs8.proofs.EncryptedKeys.{key_read}
use Rattle.pkcs8.proofs.KeyTypes.{locked, locked_text, unlocked}
use Rattle.pkcs8.proofs.decode_private_key.DecodePrivateKey.from_pkcs8_encrypted_der.Goals as goal

pub returns-in_ok-text-in-Ok-clause-ok : goal.returns-in_ok-text-in-Ok-clause-ok
returns-in_ok-text-in-Ok-clause-ok g c =
    unlocked c.args.bytes.now c.args.password.now c.in-Ok.info.encryption_algorithm c.in-Ok.info.encrypted_data.octets.now
    (key_read c.args.bytes.now (encrypted_key c.in-Ok.info.encryption_algorithm c.in-Ok.info.encrypted_data.octets.now) c.in-Ok.ensures)
    c.in_ok-text-in-Ok.text.document.octets c.as_bytes.result.now c.as_bytes.ensures.value c.in_ok-text-in-Ok.ensures.ok g.Self.DecodePrivateKey.holds c.from_pkcs8_der.result c.from_pkcs8_der.ensures.ok

pub returns-in_ok-text-in-Ok-clause-err : goal.returns-in_ok-text-in-Ok-clause-err
returns-in_ok-text-in-Ok-clause-err g c =
    locked_text c.args.bytes.now c.args.password.now c.in-Ok.info.encryption_algorithm c.in-Ok.info.encrypted_data.octets.now
    (key_read c.args.bytes.now (encrypted_key c.in-Ok.info.encryption_algorithm c.in-Ok.info.encrypted_data.octets.now) c.in-Ok.ensures)
    c.in_ok-text-in-Ok.text.document.octets c.as_bytes.result.now c.as_bytes.ensures.value c.in_ok-text-in-Ok.ensures.ok g.Self.DecodePrivateKey.refuses c.from_pkcs8_der.result c.from_pkcs8_der.ensures.err

pub returns-in_err-text-in-Ok-clause-err : goal.returns-in_err-text-in-Ok-clause-err
returns-in_err-text-in-Ok-clause-err g c =
    let p = err_from_is_err_and c.from_residual.result c.from_residual.ensures.1 in
    rw (p.1, p.2) (locked c.args.bytes.now c.args.password.now c.in-Ok.info.encryption_algorithm c.in-Ok.info.encrypted_data.octets.now
    (key_read c.args.bytes.now (encrypted_key c.in-Ok.info.encryption_algorithm c.in-Ok.info.encrypted_data.octets.now) c.in-Ok.ensures)
    g.Self.DecodePrivateKey.refuses c.in_err-text-in-Ok.field-0.0 c.in_err-text-in-Ok.ensures.err)

use Rattle.std.proofs.lemmas.Result.{IfOk-from_err}
use Rattle.pkcs5.proofs.pbes2.encryption_key.EncryptionKey.derive_from_password.Goals as goal

pub returns-in_err-expect_length-clause-ok : goal.returns-in_err-expect_length-clause-ok
returns-in_err-expect_length-clause-ok c = IfOk-from_err _ _ c.from_residual.ensures.0

pub returns-in_err-expect_length-clause-length : goal.returns-in_err-expect_length-clause-length
returns-in_err-expect_length-clause-length c = IfOk-from_err _ _ c.from_residual.ensures.0

pub returns-in_err-derive-clause-ok : goal.returns-in_err-derive-clause-ok
returns-in_err-derive-clause-ok c = IfOk-from_err _ _ c.from_residual-in_err-derive.ensures.0

pub returns-in_err-derive-clause-length : goal.returns-in_err-derive-clause-length
returns-in_err-derive-clause-length c = IfOk-from_err _ _ c.from_residual-in_err-derive.ensures.0

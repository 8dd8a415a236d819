use Rattle.std.proofs.lemmas.Result.{IfOk-from_err}
use Rattle.pkcs5.proofs.pbes2.encryption_key.EncryptionKey.of_parameters_counted.Goals as goal

pub returns-in_err-expect_length-clause-fits : goal.returns-in_err-expect_length-clause-fits
returns-in_err-expect_length-clause-fits g c = IfOk-from_err _ _ c.from_residual.ensures.0

pub returns-in_err-expect_length-clause-key : goal.returns-in_err-expect_length-clause-key
returns-in_err-expect_length-clause-key g c = IfOk-from_err _ _ c.from_residual.ensures.0

pub returns-in_err-expect_length-clause-length : goal.returns-in_err-expect_length-clause-length
returns-in_err-expect_length-clause-length g c = IfOk-from_err _ _ c.from_residual.ensures.0

pub returns-in_err-expect_length-clause-steps : goal.returns-in_err-expect_length-clause-steps
returns-in_err-expect_length-clause-steps g c = IfOk-from_err _ _ c.from_residual.ensures.0

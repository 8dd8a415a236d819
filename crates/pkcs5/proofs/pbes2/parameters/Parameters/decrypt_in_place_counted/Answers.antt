use Rattle.std.proofs.lemmas.Result.{IfOk-from_err}
use Rattle.pkcs5.proofs.pbes2.parameters.Parameters.decrypt_in_place_counted.Goals as goal

pub returns-in_err-key-clause-ok : goal.returns-in_err-key-clause-ok
returns-in_err-key-clause-ok g c = IfOk-from_err _ _ c.from_residual.ensures.0

pub returns-in_err-key-clause-behind : goal.returns-in_err-key-clause-behind
returns-in_err-key-clause-behind g c = IfOk-from_err _ _ c.from_residual.ensures.0

pub returns-in_err-key-clause-by_rounds : goal.returns-in_err-key-clause-by_rounds
returns-in_err-key-clause-by_rounds g c = IfOk-from_err _ _ c.from_residual.ensures.0

pub returns-in_err-key-clause-steps : goal.returns-in_err-key-clause-steps
returns-in_err-key-clause-steps g c = IfOk-from_err _ _ c.from_residual.ensures.0

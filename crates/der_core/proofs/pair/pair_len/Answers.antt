use Rattle.std.proofs.lemmas.Result.{IfOk-from_err}
use Rattle.der_core.proofs.pair.pair_len.Goals as goal

pub returns-in_err-one-clause-lawful : goal.returns-in_err-one-clause-lawful
returns-in_err-one-clause-lawful g c = IfOk-from_err _ _ c.from_residual.ensures.0

pub returns-in_err-two-clause-lawful : goal.returns-in_err-two-clause-lawful
returns-in_err-two-clause-lawful g c = IfOk-from_err _ _ c.from_residual-in_err-two.ensures.0

use Rattle.std.proofs.lemmas.Result.{MatchResult-from_err}
use Rattle.pbkdf2.proofs.Written.{takes_rounds}
use Rattle.pbkdf2.proofs.params_text.ParamsStringTryFromParams.try_from.Goals as goal

pub returns-in_err-add_decimal : goal.returns-in_err-add_decimal
returns-in_err-add_decimal c =
    MatchResult-from_err _ _ _ c.from_residual.ensures.0 (λ _. (rw c.new-text.ensures at c.in_err-add_decimal.ensures.refused).1 (takes_rounds c.rounds.result c.rounds.type_inv))

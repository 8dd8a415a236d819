use Rattle.inventory_core.proofs.words.command_of.Goals as goal

pub returns-in_err-rest : goal.returns-in_err-rest
returns-in_err-rest c = rw c.from_residual.ensures (λ k is. c.in_err-rest.ensures.none _ is.spelled)

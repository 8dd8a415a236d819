use Rattle.frame.proofs.Deciding.{answered}
use Rattle.frame.proofs.program.answer.Goals as goal

pub returns-clause-answers : goal.returns-clause-answers
returns-clause-answers g c =
    answered _ _ _ _ _ _ c.decide-decision.ensures.decides c.write_decision.ensures.count c.write_decision.ensures.written

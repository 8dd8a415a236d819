use Rattle.rekey_core.proofs.Keeping.{none_after}
use Rattle.rekey_core.proofs.laws.no_cause_after.Goals as goal

pub returns : goal.returns
returns c = λ b p q x d limit short ch h. none_after b p q x d limit short ch h

use Rattle.rekey_core.proofs.Keeping.{change_keeps_to}
use Rattle.rekey_core.proofs.laws.changes_keep_to.Goals as goal

pub returns : goal.returns
returns c = λ to b p q x d short ch. change_keeps_to to b p q x d short ch

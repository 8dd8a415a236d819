use Rattle.rekey_core.proofs.Keeping.{change_keeps}
use Rattle.rekey_core.proofs.laws.changes_keep.Goals as goal

pub returns : goal.returns
returns c = λ b p q x d short ch. change_keeps b p q x d short ch

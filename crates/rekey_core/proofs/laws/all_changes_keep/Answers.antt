use Rattle.rekey_core.proofs.Keeping.{all_keep}
use Rattle.rekey_core.proofs.laws.all_changes_keep.Goals as goal

pub returns : goal.returns
returns c = λ b p ps limit left left_after n m x h. all_keep b p ps limit left left_after n m x h

use Rattle.rekey_core.proofs.Likeness.{store_changes}
use Rattle.rekey_core.proofs.laws.made_stores_are_changes.Goals as goal

pub returns : goal.returns
returns c = λ to u b v q s m cs es d salt is plain has known rounds lists sealed long short short_store. store_changes to u b v q s m cs es d salt is plain has known rounds lists sealed long short short_store

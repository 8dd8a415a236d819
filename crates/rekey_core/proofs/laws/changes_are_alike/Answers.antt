use Rattle.rekey_core.proofs.Alike.{changes_alike}
use Rattle.rekey_core.proofs.laws.changes_are_alike.Goals as goal

pub returns : goal.returns
returns c = λ b p x q d limit first further ch. changes_alike b p x q d limit first further ch

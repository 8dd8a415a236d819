use Rattle.rekey_core.proofs.Renewing.{changes_renew}
use Rattle.rekey_core.proofs.laws.changes_renew.Goals as goal

pub returns : goal.returns
returns c = λ r b p q x d ch. changes_renew r b p q x d ch

use Rattle.rekey_core.proofs.Renewing.{renewed_work}
use Rattle.rekey_core.proofs.laws.renewed_stores_cost.Goals as goal

pub returns : goal.returns
returns c = λ r m cs gss. renewed_work r m cs gss

use Rattle.rekey_core.proofs.Reopening.{renewed_opens}
use Rattle.rekey_core.proofs.laws.renewed_texts_open.Goals as goal

pub returns : goal.returns
returns c = λ rounds u v q version cs gss ks drawn x small lists held s. renewed_opens rounds u v q version cs gss ks drawn x small lists held s

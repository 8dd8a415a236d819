use Rattle.store_renewal.proofs.Renewing.{renewed_opens}
use Rattle.store_renewal.proofs.laws.renewed_stores_open.Goals as goal

pub returns : goal.returns
returns c = λ r b p q limit left after steps steps_after x u. renewed_opens c.renewed_texts_open.ensures r b p q limit left after steps steps_after x u

use Rattle.pem_stores.proofs.Kept.{stores_keep_texts}
use Rattle.pem_stores.proofs.laws.stores_keep_texts.Goals as goal

pub returns : goal.returns
returns c = stores_keep_texts c.created_stores_open.ensures.only

use Rattle.pkcs8.proofs.Spellings.{one_private_key}
use Rattle.pkcs8.proofs.laws.texts_have_one_private_key.Goals as goal

pub returns : goal.returns
returns c = one_private_key

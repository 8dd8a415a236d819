use Rattle.spki.proofs.Spellings.{one_public_key}
use Rattle.spki.proofs.laws.texts_have_one_public_key.Goals as goal

pub returns : goal.returns
returns c = one_public_key

use Rattle.spki.proofs.Spellings.{public_keys_spelled}
use Rattle.spki.proofs.laws.public_keys_have_one_text.Goals as goal

pub returns : goal.returns
returns c = public_keys_spelled

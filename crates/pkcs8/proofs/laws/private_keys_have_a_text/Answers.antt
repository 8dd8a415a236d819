use Rattle.pkcs8.proofs.Spellings.{private_keys_texts}
use Rattle.pkcs8.proofs.laws.private_keys_have_a_text.Goals as goal

pub returns : goal.returns
returns c = private_keys_texts

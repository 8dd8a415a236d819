use Rattle.pkcs8.proofs.Spellings.{private_keys_spelled}
use Rattle.pkcs8.proofs.laws.private_keys_are_spelled.Goals as goal

pub returns : goal.returns
returns c = private_keys_spelled

use Rattle.pkcs8.proofs.EncryptedKeys.{keys_spelled}
use Rattle.pkcs8.proofs.laws.encrypted_keys_are_spelled.Goals as goal

pub returns : goal.returns
returns c = keys_spelled

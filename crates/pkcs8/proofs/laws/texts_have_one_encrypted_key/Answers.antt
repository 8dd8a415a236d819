use Rattle.pkcs8.proofs.EncryptedKeys.{key_sole}
use Rattle.pkcs8.proofs.laws.texts_have_one_encrypted_key.Goals as goal

pub returns : goal.returns
returns c = key_sole

use Rattle.pkcs8.proofs.EncryptedKeys.{sealed_opens}
use Rattle.pkcs8.proofs.laws.sealed_documents_open.Goals as goal

pub returns : goal.returns
returns c = sealed_opens

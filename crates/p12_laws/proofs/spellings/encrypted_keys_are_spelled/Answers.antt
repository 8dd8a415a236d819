use Rattle.p12_laws.proofs.Spelled.{encrypted_key_spelled}
use Rattle.p12_laws.proofs.spellings.encrypted_keys_are_spelled.Goals as goal

pub returns : goal.returns
returns c = encrypted_key_spelled

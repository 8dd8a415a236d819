use Rattle.pkcs5.proofs.Openings.{length_opens}
use Rattle.pkcs5.proofs.opening_laws.ciphertext_length.Goals as goal

pub returns : goal.returns
returns c = length_opens

use Rattle.p12.proofs.OneCiphertext.{triple_des_sole}
use Rattle.p12.proofs.uniqueness.one_ciphertext_opens_to_a_text.Goals as goal

pub returns : goal.returns
returns c = triple_des_sole

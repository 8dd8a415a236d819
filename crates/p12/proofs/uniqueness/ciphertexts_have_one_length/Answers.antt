use Rattle.p12.proofs.OneCiphertext.{triple_des_length}
use Rattle.p12.proofs.uniqueness.ciphertexts_have_one_length.Goals as goal

pub returns : goal.returns
returns c = triple_des_length

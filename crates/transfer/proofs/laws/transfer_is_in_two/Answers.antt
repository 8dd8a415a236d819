use Rattle.transfer.proofs.Valid.{transfer_in_two}
use Rattle.transfer.proofs.laws.transfer_is_in_two.Goals as goal

pub returns : goal.returns
returns c = transfer_in_two

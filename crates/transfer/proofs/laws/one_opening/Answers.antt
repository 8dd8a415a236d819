use Rattle.transfer.proofs.Valid.{one_opening as one}
use Rattle.transfer.proofs.laws.one_opening.Goals as goal

pub returns : goal.returns
returns c = one

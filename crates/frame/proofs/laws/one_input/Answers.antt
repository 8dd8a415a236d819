use Rattle.frame.proofs.Lines.{one_input as one}
use Rattle.frame.proofs.laws.one_input.Goals as goal

pub returns : goal.returns
returns c = one

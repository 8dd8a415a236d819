use Rattle.transfer.proofs.Places.{in_place}
use Rattle.transfer.proofs.laws.drawn_in_place.Goals as goal

pub returns : goal.returns
returns c = in_place

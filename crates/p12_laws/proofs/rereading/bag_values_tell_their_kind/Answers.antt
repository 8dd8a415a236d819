use Rattle.p12.proofs.Again.{kind_tells}
use Rattle.p12_laws.proofs.rereading.bag_values_tell_their_kind.Goals as goal

pub returns : goal.returns
returns c = kind_tells

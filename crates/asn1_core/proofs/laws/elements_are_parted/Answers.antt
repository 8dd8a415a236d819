use Rattle.asn1_core.proofs.Parted.{el_one}
use Rattle.asn1_core.proofs.laws.elements_are_parted.Goals as goal

pub returns : goal.returns
returns c = el_one

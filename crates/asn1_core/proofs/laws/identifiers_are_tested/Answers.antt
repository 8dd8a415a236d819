use Rattle.asn1_core.proofs.Identifiers.{test_found, test_again}
use Rattle.asn1_core.proofs.laws.identifiers_are_tested.Goals as goal

pub returns : goal.returns
returns c o = (test_found o, test_again o)

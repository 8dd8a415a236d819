use Rattle.asn1_core.proofs.SetLaws.{in_order-permutes, in_order-sorted}
use Rattle.asn1_core.proofs.laws.sets_are_in_order.Goals as goal

pub returns-clause-same : goal.returns-clause-same
returns-clause-same c = in_order-permutes

pub returns-clause-ascending : goal.returns-clause-ascending
returns-clause-ascending c = in_order-sorted

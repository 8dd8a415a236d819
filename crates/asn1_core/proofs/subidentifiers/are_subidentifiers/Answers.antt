use Rattle.std.proofs.Common.{sym, ◌∙◌}
use Rattle.asn1_core.proofs.Loops.{sub_stops, sub_goes_on, sub_ends}
use Rattle.asn1_core.proofs.subidentifiers.are_subidentifiers.Goals as goal

pub returns-in-None : goal.returns-in-None
returns-in-None c = sym (sub_stops c.loop-octet.n c.loop-octet.octet-index c.args.octets.now c.loop-octet-test.true (sym c.in-None.ensures)) ∙ c.loop-octet.invariant

pub loop-octet-preserved : goal.loop-octet-preserved
loop-octet-preserved c = sym (sub_goes_on c.loop-octet.n c.in-Some.next c.loop-octet.octet-index c.args.octets.now c.loop-octet-test.true (sym c.in-Some.ensures)) ∙ c.loop-octet.invariant

pub returns : goal.returns
returns c = sym (sub_ends c.loop-octet.n c.loop-octet.octet-index c.args.octets.now c.loop-octet-test.false) ∙ c.loop-octet.invariant

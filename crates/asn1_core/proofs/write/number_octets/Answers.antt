use Rattle.std.proofs.Common.{arith, length-set, ◌∙◌, ◌%◌}
use Rattle.asn1_core.specs.DigitLaws.{shortest_fits, shortest_step, shortest_done}
use Rattle.asn1_core.proofs.write.number_octets.Goals as goal

pub loop-m-preserved : goal.loop-m-preserved
loop-m-preserved c =
    let i = c.loop-m.invariant in
    let f = shortest_fits c.loop-m.from c.loop-m.m (omega (arith, c.loop-m-test.true)) i.1 in
    (omega (arith, i.0), f.1, shortest_step c.args.n c.loop-m.m c.loop-m.from c.loop-m.octets (omega (arith, c.loop-m-test.true)) f.0 (omega (arith, i.0, i.3)) i.2, length-set c.loop-m.octets c.loop-m.from (c.loop-m.m % 256) ∙ i.3)

pub returns-clause-is : goal.returns-clause-is
returns-clause-is c =
    let i = c.loop-m.invariant in
    shortest_done c.args.n c.loop-m.m c.loop-m.from c.loop-m.octets (omega (arith, c.loop-m-test.false)) (omega (arith, i.0, i.3)) i.2

use Rattle.std.proofs.Common.{arith, length-set, ◌∙◌, ◌%◌, ◌+◌, ◌-◌}
use Rattle.asn1_core.proofs.Made.{base_fits, base_step, base_done}
use Rattle.asn1_core.proofs.encoding.sub_octets.Goals as goal

pub loop-m-preserved : goal.loop-m-preserved
loop-m-preserved c =
    let i = c.loop-m.invariant in
    let f = base_fits c.loop-m.from c.loop-m.m c.loop-m-test.true i.1 in
    (omega (arith, i.0), f.1, base_step c.args.n c.loop-m.m c.loop-m.from c.loop-m.octets c.loop-m-test.true f.0 (omega (arith, i.0, i.3)) i.2, length-set c.loop-m.octets (c.loop-m.from - 1) (128 + c.loop-m.m % 128) ∙ i.3)

pub returns-clause-is : goal.returns-clause-is
returns-clause-is c = base_done c.args.n c.loop-m.m c.loop-m.from c.loop-m.octets c.loop-m-test.false c.loop-m.invariant.2

use Rattle.std.proofs.Common.{arith, ap}
use Rattle.std.proofs.Math.ListN.{drop_of_length-le}
use Rattle.asn1_core.proofs.ArcsRead.{arcs_count, ends}
use Rattle.asn1_core.proofs.arcs.count.Goals as goal

pub returns : goal.returns
returns c =
    let e = ap ends (drop_of_length-le c.args.octets.now c.loop-octet-test.false) in
    omega (arith, arcs_count c.args.octets.now c.requires, c.loop-octet.invariant.0, e)

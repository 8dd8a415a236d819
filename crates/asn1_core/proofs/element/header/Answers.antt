use Rattle.std.proofs.Common.{arith, ap, length, length-append}
use Rattle.asn1_core.specs.Der.{len}
use Rattle.asn1_core.specs.ElementLaws.{len_takes}
use Rattle.asn1_core.proofs.element.header.Goals as goal

pub returns-else-behind-rest-gt4294967295-clause-short : goal.returns-else-behind-rest-gt4294967295-clause-short
returns-else-behind-rest-gt4294967295-clause-short c =
    let is = len_takes c.in-Some.behind.now c.in_ok-n-in-Some.n c.in_ok-n-in-Some.rest.now c.in_ok-n-in-Some.ensures.exact in
    omega (arith, ap length is, length-append (len c.in_ok-n-in-Some.n) c.in_ok-n-in-Some.rest.now, c.if-behind-rest-gt4294967295.false)

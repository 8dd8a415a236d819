use Rattle.std.proofs.Common.{arith}
use Rattle.asn1_core.proofs.Loops.{number_more}
use Rattle.asn1_core.proofs.integer.number_up_to.Goals as goal

pub returns-then-next-from-clause-none : goal.returns-then-next-from-clause-none
returns-then-next-from-clause-none c = omega (arith, number_more c.loop-b.n c.loop-b.b-index c.args.octets.now c.loop-b-test.true, c.loop-b.invariant.0)

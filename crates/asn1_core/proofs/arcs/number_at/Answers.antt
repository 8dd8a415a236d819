use Rattle.std.proofs.Common.{arith}
use Rattle.asn1_core.proofs.ArcsRead.{walk, hit, skips, more, past}
use Rattle.asn1_core.proofs.arcs.number_at.Goals as goal
use Rattle.asn1_core.proofs.arcs.number_at.Goals.{then-octet-lt128+else-left-eq0, else-octet-lt128}

pub overflow_mul-result : goal.overflow_mul-result
overflow_mul-result c = let w = walk c.loop-octet.n c.loop-octet.octet-index c.args.octets.now c.loop-octet-test.true c.loop-octet.invariant.0 in omega (arith, w.small)

pub overflow_add-result : goal.overflow_add-result
overflow_add-result c = let w = walk c.loop-octet.n c.loop-octet.octet-index c.args.octets.now c.loop-octet-test.true c.loop-octet.invariant.0 in omega (arith, w.small, c.from.ensures, c.if-octet-lt128.true)

pub returns-then-left-eq0 : goal.returns-then-left-eq0
returns-then-left-eq0 c =
    let w = walk c.loop-octet.n c.loop-octet.octet-index c.args.octets.now c.loop-octet-test.true c.loop-octet.invariant.0 in
    rw c.from.ensures (hit _ _ c.loop-octet.left _ _ _ w c.loop-octet.invariant.1 c.if-octet-lt128.true c.if-left-eq0.true)

pub overflow_mul-n : goal.overflow_mul-n
overflow_mul-n c = let w = walk c.loop-octet.n c.loop-octet.octet-index c.args.octets.now c.loop-octet-test.true c.loop-octet.invariant.0 in omega (arith, w.small)

pub overflow_add-n : goal.overflow_add-n
overflow_add-n c = let w = walk c.loop-octet.n c.loop-octet.octet-index c.args.octets.now c.loop-octet-test.true c.loop-octet.invariant.0 in omega (arith, w.small, c.from-else-octet-lt128.ensures, c.type_inv.octets c.loop-octet.octet-index)

pub loop-octet-preserved : goal.loop-octet-preserved
loop-octet-preserved c =
    let w = walk c.loop-octet.n c.loop-octet.octet-index c.args.octets.now c.loop-octet-test.true c.loop-octet.invariant.0 in
    elim c.if-octet-lt128.branch [
      | then-octet-lt128+else-left-eq0 b ↦ rw (b.n-is, b.left-is) (skips _ _ c.loop-octet.left _ _ _ w c.loop-octet.invariant.1 b.if-octet-lt128.true (omega (arith, b.if-left-eq0.false)))
      | else-octet-lt128 b ↦ rw (b.n-is, b.left-is, b.from-else-octet-lt128.ensures) (more _ _ c.loop-octet.left _ _ _ w c.loop-octet.invariant.1 b.if-octet-lt128.false)
    ]

pub returns : goal.returns
returns c = past c.loop-octet.n c.loop-octet.octet-index c.loop-octet.left c.args.octets.now _ c.loop-octet-test.false c.loop-octet.invariant.1

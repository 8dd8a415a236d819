use Rattle.std.proofs.Common.{arith}
use Rattle.p12.proofs.HeldBags.{fault_at, hold_next}
use Rattle.p12.proofs.collecting.all_bags.Goals as goal

pub loop-content-init : goal.loop-content-init
loop-content-init c = record { done = c.new-bags.ensures }

pub returns-in-Err-clause-err : goal.returns-in-Err-clause-err
returns-in-Err-clause-err c =
    fault_at c.args.password.now c.args.contents.now c.loop-content.content-index c.content-item.result c.loop-content.bags c.in-Err.refusal (omega arith) c.content-item.is
    c.loop-content.invariant.done c.in-Err.ensures.err

pub loop-content-preserved : goal.loop-content-preserved
loop-content-preserved c =
    let next =
    hold_next c.args.password.now c.args.contents.now c.loop-content.content-index c.content-item.result c.loop-content.bags c.in-Ok.more (omega arith) c.content-item.is
    c.loop-content.invariant.done c.in-Ok.ensures.ok in
    record { done = rw (c.in_ok-append-in-Ok.ensures.ok) next }

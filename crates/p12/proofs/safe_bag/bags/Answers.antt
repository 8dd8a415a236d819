use Rattle.asn1_core.proofs.PartLoops.{goes_on}
use Rattle.p12.specs.Reading.{bag_at}
use Rattle.p12.proofs.safe_bag.bags.Goals as goal

pub loop-body-preserved : goal.loop-body-preserved
loop-body-preserved c = rw c.in_ok-push.ensures.ok (goes_on bag_at c.args.body.rest.now c.loop-body.body.rest.now c.bag_in_front.new.r.rest.now c.loop-body.items c.in_ok-item.item c.in_ok-item.ensures.shorter c.in_ok-item.ensures.exact c.loop-body.invariant)

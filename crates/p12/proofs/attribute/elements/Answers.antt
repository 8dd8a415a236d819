use Rattle.asn1_core.proofs.PartLoops.{goes_on}
use Rattle.asn1_core.specs.Reading.{raw_at}
use Rattle.p12.proofs.attribute.elements.Goals as goal

pub loop-body-preserved : goal.loop-body-preserved
loop-body-preserved c = rw (c.in_ok-push.ensures.ok, c.in_ok-from_slice.ensures) (goes_on raw_at c.args.body.rest.now c.loop-body.body.rest.now c.read_raw.new.r.rest.now c.loop-body.items c.in_ok-item.item.now c.in_ok-item.ensures.shorter c.in_ok-item.ensures.exact c.loop-body.invariant)

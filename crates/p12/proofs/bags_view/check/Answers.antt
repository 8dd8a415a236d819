use Rattle.asn1_core.proofs.PartLoops.{goes_on}
use Rattle.p12.specs.Reading.{bag_at}
use Rattle.p12.specs.BagView.{seen_parts}
use Rattle.p12.proofs.bags_view.check.Goals as goal

pub loop-body-preserved : goal.loop-body-preserved
loop-body-preserved c =
    let s = c.loop-body.invariant in
    (_, goes_on bag_at c.args.body.rest.now c.loop-body.body.rest.now c.bag_view.new.r.rest.now s.0 (seen_parts c.in-Ok.field-0) c.in-Ok.ensures.shorter c.in-Ok.ensures.exact s.1)

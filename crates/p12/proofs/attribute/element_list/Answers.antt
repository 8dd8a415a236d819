use Rattle.asn1_core.proofs.PartLoops.{goes_on}
use Rattle.asn1_core.specs.Reading.{raw_at}
use Rattle.p12.proofs.attribute.element_list.Goals as goal

pub loop-body-preserved : goal.loop-body-preserved
loop-body-preserved c =
    let s = c.loop-body.invariant in
    (_, goes_on raw_at c.args.body.rest.now c.loop-body.body.rest.now c.read_raw.new.r.rest.now s.0 c.in_ok-read_raw.field-0.now c.in_ok-read_raw.ensures.shorter c.in_ok-read_raw.ensures.exact s.1)

use Rattle.asn1_core.proofs.PartLoops.{goes_on}
use Rattle.p12.specs.Reading.{attribute_at}
use Rattle.p12.specs.AttributeView.{seen_attribute}
use Rattle.p12.proofs.attribute.checked_list.Goals as goal

pub loop-body-preserved : goal.loop-body-preserved
loop-body-preserved c =
    let s = c.loop-body.invariant in
    (_, goes_on attribute_at c.args.body.rest.now c.loop-body.body.rest.now c.attribute_view.new.r.rest.now s.0 (seen_attribute c.in_ok-attribute_view.field-0) c.in_ok-attribute_view.ensures.shorter c.in_ok-attribute_view.ensures.exact s.1)

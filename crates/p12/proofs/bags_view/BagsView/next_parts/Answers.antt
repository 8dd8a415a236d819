use Rattle.std.proofs.Common.{ap, sym, subst, ◌∙◌}
use Rattle.p12.specs.BagView.{GoesBy, seen_parts}
use Rattle.p12.specs.Reading.{bag_at}
use Rattle.p12.specs.Walk.{Walk, walk_over}
use Rattle.p12.specs.declared.safe_bag.SafeBag.{SafeBag}
use Rattle.p12.proofs.BagWalks.{bag_goes, goes_by}
use Rattle.p12.proofs.bags_view.BagsView.next_parts.Goals as goal

pub invariant_of-self : goal.invariant_of-self
invariant_of-self c = bag_goes c.self.inside.bytes.now c.self.inside.rest.now c.bag_view.new.r.rest.now (seen_parts c.in-Ok.parts) c.self.invariant (ap bag_at (sym c.new-r.ensures.all) ∙ c.in-Ok.ensures.exact)

pub returns-clause-some : goal.returns-clause-some
returns-clause-some c = (
  c.in-Ok.ensures.lawful,
  subst (λ (w : Walk SafeBag). GoesBy w (walk_over bag_at c.self.inside.bytes.now c.bag_view.new.r.rest.now) (seen_parts c.in-Ok.parts)) c.self.view_is
      (goes_by c.self.inside.bytes.now c.self.inside.rest.now c.bag_view.new.r.rest.now (seen_parts c.in-Ok.parts) c.self.invariant (ap bag_at (sym c.new-r.ensures.all) ∙ c.in-Ok.ensures.exact)),
)

use Rattle.std.proofs.Common.{ap, sym, subst, ◌∙◌}
use Rattle.p12.specs.BagView.{GoesBy}
use Rattle.p12.specs.Reading.{bag_at}
use Rattle.p12.specs.Walk.{Walk, walk_over}
use Rattle.p12.specs.declared.safe_bag.SafeBag.{SafeBag}
use Rattle.p12.proofs.BagWalks.{bag_goes, goes_by}
use Rattle.p12.proofs.bags_view.BagsView.next_owned.Goals as goal

pub invariant_of-self : goal.invariant_of-self
invariant_of-self c = bag_goes c.self.inside.bytes.now c.self.inside.rest.now c.bag_in_front.new.r.rest.now c.in-Ok.bag c.self.invariant (ap bag_at (sym c.new-r.ensures.all) ∙ c.in-Ok.ensures.exact)

pub returns-in-Ok-clause-some : goal.returns-in-Ok-clause-some
returns-in-Ok-clause-some c =
    subst (λ (w : Walk SafeBag). GoesBy w (walk_over bag_at c.self.inside.bytes.now c.bag_in_front.new.r.rest.now) c.in-Ok.bag) c.self.view_is
    (goes_by c.self.inside.bytes.now c.self.inside.rest.now c.bag_in_front.new.r.rest.now c.in-Ok.bag c.self.invariant (ap bag_at (sym c.new-r.ensures.all) ∙ c.in-Ok.ensures.exact))

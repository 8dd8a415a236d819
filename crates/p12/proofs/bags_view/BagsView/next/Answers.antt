use Rattle.std.proofs.Common.{ap, sym, subst, ◌∙◌, length, List, ℕ}
use Rattle.p12.specs.BagView.{BagLies, NextBag, seen_parts}
use Rattle.p12.specs.Reading.{bag_at}
use Rattle.p12.specs.Walk.{Walk, walk_over}
use Rattle.p12.specs.declared.safe_bag.SafeBag.{SafeBag}
use Rattle.p12.proofs.BagWalks.{bag_goes, next_bag}
use Rattle.p12.proofs.bags_view.BagsView.next.Goals as goal

pub invariant_of-self : goal.invariant_of-self
invariant_of-self c =
    bag_goes c.self.inside.bytes.now c.self.inside.rest.now c.bag_view.new.r.rest.now (seen_parts c.in-Ok.parts) c.self.invariant (ap bag_at (sym c.new-r.ensures.all) ∙ c.in-Ok.ensures.exact)

pub returns-clause-some : goal.returns-clause-some
returns-clause-some c =
    subst (λ (w : Walk SafeBag). NextBag w (walk_over bag_at c.self.inside.bytes.now c.bag_view.new.r.rest.now) c.in-Ok.parts.bag) c.self.view_is
    (next_bag c.self.inside.bytes.now c.self.inside.rest.now c.bag_view.new.r.rest.now c.in-Ok.parts c.self.invariant (ap bag_at (sym c.new-r.ensures.all) ∙ c.in-Ok.ensures.exact)
    (subst (λ (r : List ℕ). BagLies (length c.self.inside.bytes.now) r c.bag_view.new.r.rest.now c.in-Ok.parts.bag) c.new-r.ensures.all c.in-Ok.ensures.lies))

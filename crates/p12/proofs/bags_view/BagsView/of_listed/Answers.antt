use Rattle.std.proofs.Common.{List, ℕ, ap, subst, sym, ◌∙◌}
use Rattle.asn1_core.specs.Gives.{Fails}
use Rattle.asn1_core.specs.Reading.{inside_at}
use Rattle.asn1_core.specs.Texts.{Inside, Taken}
use Rattle.p12.specs.BagView.{bags_of}
use Rattle.p12.specs.Reading.{bag_at, bags_at}
use Rattle.p12.proofs.Walks.{left_of, never_fails, starts_again}
use Rattle.p12.proofs.bags_view.BagsView.of_listed.Goals as goal

pub unreachable-requires : goal.unreachable-requires
unfolding bags_at
unreachable-requires c =
    let l = left_of 0x30 _ c.args.bytes.now (bags_of c.args.bytes.now) c.requires in
    absurd (never_fails (inside_at 0x30 c.args.bytes.now) (l.0, l.1) _ l.2 (subst (λ (b : List ℕ). Fails ⊥ c.in-Err.field-0 (inside_at 0x30 b)) c.new-r.ensures.all c.in-Err.ensures.exact.1))

pub invariant_of-result : goal.invariant_of-result
unfolding bags_at
invariant_of-result c =
    (starts_again bag_at c.args.bytes.now c.in-Ok.body.rest.now c.read_inner.new.r.rest.now (bags_of c.args.bytes.now)
    (subst (λ (b : List ℕ). Taken (Inside 0x30) b c.in-Ok.body.rest.now c.read_inner.new.r.rest.now) c.new-r.ensures.all c.in-Ok.ensures.stands)
    (ap (inside_at 0x30) (sym c.new-r.ensures.all) ∙ c.in-Ok.ensures.exact) c.requires).0

pub returns-clause-are : goal.returns-clause-are
unfolding bags_at
returns-clause-are c =
    (starts_again bag_at c.args.bytes.now c.in-Ok.body.rest.now c.read_inner.new.r.rest.now (bags_of c.args.bytes.now)
    (subst (λ (b : List ℕ). Taken (Inside 0x30) b c.in-Ok.body.rest.now c.read_inner.new.r.rest.now) c.new-r.ensures.all c.in-Ok.ensures.stands)
    (ap (inside_at 0x30) (sym c.new-r.ensures.all) ∙ c.in-Ok.ensures.exact) c.requires).1

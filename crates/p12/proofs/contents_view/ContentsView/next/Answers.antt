use Rattle.std.proofs.Common.{ap, sym, subst, ◌∙◌}
use Rattle.p12.specs.ContentView.{NextContent, seen_content}
use Rattle.p12.specs.Reading.{content_at}
use Rattle.p12.specs.Walk.{Walk, walk_over}
use Rattle.p12.specs.declared.content_info.ContentInfo.{ContentInfo}
use Rattle.p12.proofs.ContentWalks.{content_goes, next_content}
use Rattle.p12.proofs.contents_view.ContentsView.next.Goals as goal

pub invariant_of-self : goal.invariant_of-self
invariant_of-self c =
    content_goes c.self.inside.bytes.now c.self.inside.rest.now c.content_view.new.r.rest.now (seen_content c.in-Ok.content) c.self.invariant (ap content_at (sym c.new-r.ensures.all) ∙ c.in-Ok.ensures.exact)

pub returns-clause-some : goal.returns-clause-some
returns-clause-some c =
    subst (λ (w : Walk ContentInfo). NextContent w (walk_over content_at c.self.inside.bytes.now c.content_view.new.r.rest.now) c.in-Ok.content) c.self.view_is
    (next_content c.self.inside.bytes.now c.self.inside.rest.now c.content_view.new.r.rest.now c.in-Ok.content c.self.invariant (ap content_at (sym c.new-r.ensures.all) ∙ c.in-Ok.ensures.exact) c.in-Ok.ensures.ends)

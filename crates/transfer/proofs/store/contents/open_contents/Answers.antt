use Rattle.std.proofs.Common.{arith, subst, ◌∙◌}
use Rattle.transfer.specs.Opening.{ContentCause, RefusedAfter}
use Rattle.std.proofs.lemmas.Result.{err_from_is_err_and}
use Rattle.p12.specs.ContentView.{seen_content}
use Rattle.transfer.proofs.ContentBags.{fault_now}
use Rattle.transfer.proofs.ContentsInPlace.{opens_first, opens_on, stands_now}
use Rattle.transfer.proofs.store.contents.open_contents.Goals as goal

pub loop-content-init : goal.loop-content-init
loop-content-init g c = record {
  done = rw (c.new-places.ensures) (opens_first c.args.password.now c.args.budget.now.limit c.args.budget.now.spent c.args.contents c.args.text.now c.requires.copy c.requires.fit c.args.budget.now.within);
  same = search arith;
  steps = omega arith;
}

pub open_content-requires-clause-stands : goal.open_content-requires-clause-stands
open_content-requires-clause-stands g c = stands_now _ _ _ _ _ _ _ _ c.loop-content.invariant.done _ _ c.in-Some.ensures.some

pub loop-content-preserved : goal.loop-content-preserved
loop-content-preserved g c =
    let i = c.loop-content.invariant in
    let o = c.in_ok-place.ensures.opened in
    record {
      done = rw (c.in_ok-push.ensures.ok) (opens_on _ _ _ _ _ _ _ _ i.done _ _ c.in-Some.ensures.some c.open_content.new.text c.in_ok-place.place c.open_content.new.budget.spent o.0 o.1.1
          (omega (arith, c.open_content.new.budget.within, o.1.0, i.same)));
      same = o.1.0 ∙ i.same;
      steps = omega (arith, i.steps, o.1.1, o.2);
    }

pub returns-in_err-place-clause-refused : goal.returns-in_err-place-clause-refused
returns-in_err-place-clause-refused g c =
    let p = err_from_is_err_and c.from_residual.result c.from_residual.ensures.1 in
    let i = c.loop-content.invariant in
    rw (p.1, p.2) (fault_now _ _ _ _ _ _ _ i.done.held _ _ c.in-Some.ensures.some c.in_err-place.field-0.0 c.args.steps.now c.loop-content.steps c.open_content.new.steps (omega (arith, i.steps, i.done.held.is))
    (subst (λ limit. RefusedAfter (ContentCause c.args.password.now limit c.loop-content.budget.spent (seen_content c.in-Some.content)) c.loop-content.steps c.open_content.new.steps c.in_err-place.field-0.0) i.same c.in_err-place.ensures.refused))

use Rattle.std.proofs.Common.{arith, subst, sym}
use Rattle.std.proofs.lemmas.Result.{err_from_is_err_and}
use Rattle.p12.specs.BagView.{ListsBags, bags_of}
use Rattle.p12.specs.ContentInfo.{SealFits}
use Rattle.transfer.specs.Opening.{RefusedAfter}
use Rattle.legacy_store.specs.Forms.{seen_forms}
use Rattle.legacy_store.specs.Opening.{LegacyContentCause, LegacyHolds, legacy_contents, legacy_share}
use Rattle.transfer.proofs.Faults.{part_refused}
use Rattle.legacy_store.proofs.Parts.{none_open, part_more, part_share}
use Rattle.legacy_store.proofs.contents.open_contents.Goals as goal

pub loop-part-init : goal.loop-part-init
loop-part-init g c =
    let b = c.args.budget.now in
    record {
      done = rw (c.new-opened.ensures) (none_open (legacy_contents (seen_forms c.args.secret.now) b.limit) b.limit b.spent b.within);
      spent = (search arith, omega arith);
      steps = omega arith;
    }

pub open_content-requires-clause-fits : goal.open_content-requires-clause-fits
open_content-requires-clause-fits g c = subst SealFits (sym c.part-item.is) (c.requires.fit c.loop-part.part-index c.part-item.result (omega arith))

pub returns-in_err-text-clause-refused : goal.returns-in_err-text-clause-refused
returns-in_err-text-clause-refused g c =
    let p = err_from_is_err_and c.from_residual.result c.from_residual.ensures.1 in
    let i = c.loop-part.invariant in
    let b = c.args.budget.now in
    let now = c.loop-part.budget.spent in
    let f = seen_forms c.args.secret.now in
    rw (p.1, p.2) (part_refused (legacy_contents f b.limit) b.limit b.spent now c.args.contents.now c.loop-part.part-index c.part-item.result c.loop-part.opened _ _ _ c.in_err-text.field-0.0
    (omega arith) c.part-item.is i.done i.spent.1 i.steps
    (subst (λ limit. RefusedAfter (LegacyContentCause f limit now c.part-item.result) c.loop-part.steps c.open_content.new.steps c.in_err-text.field-0.0) i.spent.0 c.in_err-text.ensures.refused))

pub push-requires : goal.push-requires
push-requires g c = subst ListsBags (sym c.as_slice-plain.ensures) c.in_ok-text.ensures.lists

pub loop-part-preserved : goal.loop-part-preserved
loop-part-preserved g c =
    let i = c.loop-part.invariant in
    let b = c.args.budget.now in
    let now = c.loop-part.budget.spent in
    let at = c.loop-part.part-index in
    let cs = c.args.contents.now in
    let f = seen_forms c.args.secret.now in
    let o = c.in_ok-text.ensures.opened in
    let more = part_share legacy_share cs at c.part-item.result (omega arith) c.part-item.is in
    let holds = subst (λ t. LegacyHolds f c.part-item.result (bags_of t)) (sym c.as_slice-plain.ensures) o.0 in
    record {
      done = rw (c.in_ok-push.ensures.ok) (part_more (legacy_contents f b.limit) b.limit b.spent now cs at c.part-item.result c.loop-part.opened (bags_of c.as_slice-plain.result.now)
          (omega arith) c.part-item.is i.done i.spent.1 holds (omega (arith, o.1.0, o.1.1, i.spent.0, c.open_content.new.budget.within)));
      spent = (omega (arith, o.1.0, i.spent.0), omega (arith, more, o.1.1, i.spent.1));
      steps = omega (arith, more, o.2, i.steps);
    }

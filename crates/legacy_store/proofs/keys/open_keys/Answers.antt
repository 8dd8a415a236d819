use Rattle.std.proofs.Common.{◌∙◌, ◌+◌, List, [], arith, ap, subst, sym}
use Rattle.std.specs.Prelude.{All}
use Rattle.std.specs.List.{sum_by}
use Rattle.std.proofs.lemmas.List.{take_all}
use Rattle.std.proofs.lemmas.Result.{err_from_is_err_and}
use Rattle.p12.specs.SafeBag.{BagFits}
use Rattle.p12.specs.declared.safe_bag.SafeBag.{SafeBag}
use Rattle.transfer.specs.Opening.{RefusedAfter, all_shrouded, shrouded_among}
use Rattle.transfer.specs.Parts.{AreOpen, IsFirstFault, OpensMore}
use Rattle.legacy_store.specs.Forms.{seen_forms}
use Rattle.legacy_store.specs.Opening.{legacy_key_share, legacy_keys}
use Rattle.transfer.proofs.Faults.{flat_refused, flat_share}
use Rattle.legacy_store.proofs.ContentTexts.{is_at}
use Rattle.legacy_store.proofs.Parts.{flat_opens, none_more}
use Rattle.legacy_store.proofs.keys.open_keys.Goals as goal

pub loop-index-init : goal.loop-index-init
loop-index-init g c =
    let b = c.args.budget.now in
    record {
      done = rw (c.new-keys.ensures) (none_more (legacy_keys (seen_forms c.args.secret.now) b.limit) b.limit b.spent [] b.within);
      spent = (search arith, omega arith);
      steps = omega arith;
    }

pub open_keys_among-requires-clause-fit : goal.open_keys_among-requires-clause-fit
open_keys_among-requires-clause-fit g c =
    subst (All BagFits) (sym (c.as_slice-held.ensures ∙ c.in_ok-bags.ensures)) (c.requires.fit c.loop-index.index [] (omega arith))

pub returns-in_err-open_keys_among-clause-refused : goal.returns-in_err-open_keys_among-clause-refused
returns-in_err-open_keys_among-clause-refused g c =
    let p = err_from_is_err_and c.from_residual-in_err-open_keys_among.result c.from_residual-in_err-open_keys_among.ensures.1 in
    let i = c.loop-index.invariant in
    let b = c.args.budget.now in
    let now = c.loop-index.budget.spent in
    let f = seen_forms c.args.secret.now in
    let at = c.loop-index.index in
    let bags = c.in_ok-bags.bags in
    let err = subst (λ gs. RefusedAfter (IsFirstFault (legacy_keys f c.loop-index.budget.limit) c.loop-index.budget.limit now (shrouded_among gs)) c.loop-index.steps c.open_keys_among.new.steps c.in_err-open_keys_among.field-0.0)
    c.as_slice-held.ensures c.in_err-open_keys_among.ensures.refused in
    rw (p.1, p.2) (flat_refused (legacy_keys f b.limit) shrouded_among b.limit b.spent now c.args.contents.now at bags i.done.made _ _ _ c.in_err-open_keys_among.field-0.0
    (omega arith) (is_at c.args.contents.now at bags (omega arith) c.in_ok-bags.ensures) i.done.opened i.spent.1 i.steps
    (subst (λ limit. RefusedAfter (IsFirstFault (legacy_keys f limit) limit now (shrouded_among bags)) c.loop-index.steps c.open_keys_among.new.steps c.in_err-open_keys_among.field-0.0) i.spent.0 err))

pub loop-index-preserved : goal.loop-index-preserved
loop-index-preserved g c =
    let i = c.loop-index.invariant in
    let b = c.args.budget.now in
    let now = c.loop-index.budget.spent in
    let at = c.loop-index.index in
    let f = seen_forms c.args.secret.now in
    let bags = c.in_ok-bags.bags in
    let is = is_at c.args.contents.now at bags (omega arith) c.in_ok-bags.ensures in
    let o = c.in_ok-open_keys_among.ensures.opened in
    let same = ap (λ (gs : List SafeBag). sum_by legacy_key_share (shrouded_among gs)) c.as_slice-held.ensures in
    let more = flat_share legacy_key_share shrouded_among c.args.contents.now at bags (omega arith) is in
    let opens = subst (λ gs. OpensMore (legacy_keys f c.loop-index.budget.limit) c.loop-index.budget.limit now (shrouded_among gs) c.loop-index.keys c.open_keys_among.new.keys) c.as_slice-held.ensures o.0 in
    record {
      done = flat_opens (legacy_keys f b.limit) shrouded_among b.limit b.spent now c.args.contents.now at bags [] c.loop-index.keys c.open_keys_among.new.keys
          (omega arith) is i.done i.spent.1
          (subst (λ limit. OpensMore (legacy_keys f limit) limit now (shrouded_among bags) c.loop-index.keys c.open_keys_among.new.keys) i.spent.0 opens);
      spent = (omega (arith, o.1.0, i.spent.0), omega (arith, more, o.1.1, i.spent.1, same));
      steps = omega (arith, more, o.2, i.steps, same);
    }

pub returns-clause-opened : goal.returns-clause-opened
returns-clause-opened g c =
    let i = c.loop-index.invariant in
    let b = c.args.budget.now in
    let K = legacy_keys (seen_forms c.args.secret.now) b.limit in
    let all = take_all c.loop-index.index c.args.contents.now (omega arith) in (
      subst (AreOpen K b.limit b.spent (all_shrouded c.args.contents.now)) (sym i.done.grows) (subst (λ gss. AreOpen K b.limit b.spent (all_shrouded gss) i.done.made) all i.done.opened),
      i.steps ∙ ap (λ gss. c.args.steps.now + sum_by legacy_key_share (all_shrouded gss)) all,
    )

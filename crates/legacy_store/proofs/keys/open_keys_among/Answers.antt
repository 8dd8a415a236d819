use Rattle.std.proofs.Common.{arith, subst, sym}
use Rattle.std.proofs.lemmas.Result.{err_from_is_err_and}
use Rattle.p12.specs.SafeBag.{BagFits}
use Rattle.p12.specs.declared.safe_bag.SafeBag.{SafeBag}
use Rattle.transfer.specs.Opening.{RefusedAfter, shrouded_in}
use Rattle.transfer.specs.Parts.{IsFirstFault, OpensMore}
use Rattle.legacy_store.specs.Forms.{seen_forms}
use Rattle.legacy_store.specs.Opening.{legacy_key_share, legacy_keys}
use Rattle.transfer.proofs.Faults.{flat_refused, flat_share}
use Rattle.legacy_store.proofs.Parts.{flat_opens, none_more}
use Rattle.legacy_store.proofs.keys.open_keys_among.Goals as goal

pub loop-bag-init : goal.loop-bag-init
loop-bag-init g c =
    let b = c.args.budget.now in
    record {
      done = none_more (legacy_keys (seen_forms c.args.secret.now) b.limit) b.limit b.spent c.args.keys.now b.within;
      spent = (search arith, omega arith);
      steps = omega arith;
    }

pub open_bag_key-requires-clause-fits : goal.open_bag_key-requires-clause-fits
open_bag_key-requires-clause-fits g c = subst BagFits (sym c.bag-item.is) (c.requires.fit c.loop-bag.bag-index c.bag-item.result (omega arith))

pub returns-in_err-open_bag_key-clause-refused : goal.returns-in_err-open_bag_key-clause-refused
returns-in_err-open_bag_key-clause-refused g c =
    let p = err_from_is_err_and c.from_residual.result c.from_residual.ensures.1 in
    let i = c.loop-bag.invariant in
    let b = c.args.budget.now in
    let now = c.loop-bag.budget.spent in
    let f = seen_forms c.args.secret.now in
    rw (p.1, p.2) (flat_refused (legacy_keys f b.limit) (λ (h : SafeBag). shrouded_in h.bag) b.limit b.spent now c.args.bags.now c.loop-bag.bag-index c.bag-item.result i.done.made _ _ _ c.in_err-open_bag_key.field-0.0
    (omega arith) c.bag-item.is i.done.opened i.spent.1 i.steps
    (subst (λ limit. RefusedAfter (IsFirstFault (legacy_keys f limit) limit now (shrouded_in c.bag-item.result.bag)) c.loop-bag.steps c.open_bag_key.new.steps c.in_err-open_bag_key.field-0.0) i.spent.0 c.in_err-open_bag_key.ensures.refused))

pub loop-bag-preserved : goal.loop-bag-preserved
loop-bag-preserved g c =
    let i = c.loop-bag.invariant in
    let b = c.args.budget.now in
    let now = c.loop-bag.budget.spent in
    let at = c.loop-bag.bag-index in
    let f = seen_forms c.args.secret.now in
    let o = c.in_ok-open_bag_key.ensures.opened in
    let more = flat_share legacy_key_share (λ (h : SafeBag). shrouded_in h.bag) c.args.bags.now at c.bag-item.result (omega arith) c.bag-item.is in
    record {
      done = flat_opens (legacy_keys f b.limit) (λ (h : SafeBag). shrouded_in h.bag) b.limit b.spent now c.args.bags.now at c.bag-item.result c.args.keys.now c.loop-bag.keys c.open_bag_key.new.keys
          (omega arith) c.bag-item.is i.done i.spent.1
          (subst (λ limit. OpensMore (legacy_keys f limit) limit now (shrouded_in c.bag-item.result.bag) c.loop-bag.keys c.open_bag_key.new.keys) i.spent.0 o.0);
      spent = (omega (arith, o.1.0, i.spent.0), omega (arith, more, o.1.1, i.spent.1));
      steps = omega (arith, more, o.2, i.steps);
    }

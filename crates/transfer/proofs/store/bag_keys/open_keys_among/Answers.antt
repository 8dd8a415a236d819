use Rattle.std.proofs.Common.{◌∙◌, ap, arith, inl, inr, subst}
use Rattle.std.proofs.lemmas.List.Elements.{All-push}
use Rattle.std.proofs.lemmas.Result.{err_from_is_err_and}
use Rattle.p12.specs.AlgorithmView.{seen_algorithm}
use Rattle.p12.specs.BagView.{seen_bag}
use Rattle.transfer.specs.Opening.{IsStoredKey, KeyFault, RefusedAfter, key_with, shrouded_in}
use Rattle.transfer.proofs.KeyWalks.{key_fault, key_on, key_salt, keys_first, other_on}
use Rattle.transfer.proofs.store.bag_keys.open_keys_among.Goals as goal

pub loop-bag-init : goal.loop-bag-init
loop-bag-init g c = record {
  done = keys_first c.args.password.now c.args.budget.now.limit c.args.budget.now.spent c.args.bags c.args.keys.now c.requires.fit c.args.budget.now.within;
  stored = c.requires.stored;
  same = search arith;
  steps = omega arith;
}

pub open_copy-requires-clause-salt : goal.open_copy-requires-clause-salt
open_copy-requires-clause-salt g c =
    key_salt _ _ _ _ _ _ _ _ c.loop-bag.invariant.done _ c.in-Some.bag c.in-Some.ensures.some c.in-Shrouded.algorithm c.in-Shrouded.content c.in-Shrouded.at c.in-Shrouded.is

pub returns-in_err-text-in-Shrouded-clause-refused : goal.returns-in_err-text-in-Shrouded-clause-refused
returns-in_err-text-in-Shrouded-clause-refused g c =
    let p = err_from_is_err_and c.from_residual.result c.from_residual.ensures.1 in
    let i = c.loop-bag.invariant in
    let k = key_with (seen_algorithm c.in-Shrouded.algorithm) c.in-Shrouded.content.now in
    rw (p.1, p.2) (key_fault _ _ _ _ _ _ _ _ i.done _ c.in-Some.bag c.in-Some.ensures.some c.in-Shrouded.algorithm c.in-Shrouded.content c.in-Shrouded.at c.in-Shrouded.is
    c.args.steps.now c.loop-bag.steps c.open_copy.new.steps c.in_err-text-in-Shrouded.field-0.0 (omega (arith, i.steps, i.done.is))
    (subst (λ limit. RefusedAfter (KeyFault c.args.password.now limit c.loop-bag.budget.spent k) c.loop-bag.steps c.open_copy.new.steps c.in_err-text-in-Shrouded.field-0.0) i.same c.in_err-text-in-Shrouded.ensures.refused))

pub loop-bag-preserved-in-Continue-branch-2 : goal.loop-bag-preserved-in-Continue-branch-2
loop-bag-preserved-in-Continue-branch-2 g c =
    let i = c.loop-bag.invariant in
    let o = c.in_ok-text-in-Shrouded.ensures.opened in
    record {
      done = key_on _ _ _ _ _ _ _ _ i.done _ c.in-Some.bag c.in-Some.ensures.some c.in-Shrouded.algorithm c.in-Shrouded.content c.in-Shrouded.at c.in-Shrouded.is
          c.in_ok-text-in-Shrouded.text _ c.open_copy.new.budget.spent o.0 c.in_ok-push-in-Shrouded.ensures.ok o.1.1 (omega (arith, c.open_copy.new.budget.within, o.1.0, i.same));
      stored = rw (c.in_ok-push-in-Shrouded.ensures.ok) (All-push IsStoredKey c.loop-bag.keys c.in_ok-text-in-Shrouded.text i.stored c.in_ok-text-in-Shrouded.ensures.stored);
      same = o.1.0 ∙ i.same;
      steps = omega (arith, i.steps, o.1.1, o.2);
    }

pub loop-bag-preserved : goal.loop-bag-preserved
loop-bag-preserved g c =
    let i = c.loop-bag.invariant in
    record {
      done = other_on _ _ _ _ _ _ _ _ i.done _ c.in-Some.bag c.in-Some.ensures.some
          (elim c.in-X509.is [ inl s ↦ ap (λ v. shrouded_in (seen_bag v)) s.1 | inr o ↦ elim o [ inl s ↦ ap (λ v. shrouded_in (seen_bag v)) s.1 | inr t ↦ ap (λ v. shrouded_in (seen_bag v)) t.2 ] ]);
      stored = i.stored;
      same = i.same;
      steps = i.steps;
    }

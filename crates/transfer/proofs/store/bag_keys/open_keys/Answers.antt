use Rattle.std.proofs.Common.{ap, arith, subst, sym}
use Rattle.std.specs.Prelude.{All}
use Rattle.std.specs.List.{sum_by}
use Rattle.std.proofs.lemmas.Result.{err_from_is_err_and}
use Rattle.p12.specs.Place.{at_place}
use Rattle.p12.specs.SafeBag.{BagFits}
use Rattle.p12.proofs.DefinitionLaws.{bags_fit, listed}
use Rattle.transfer.specs.OpenedSafe.{bags_there, contents_at}
use Rattle.transfer.specs.Opening.{RefusedAfter, key_share, of_keys, shrouded_among}
use Rattle.transfer.specs.Parts.{AreOpen, IsFirstFault}
use Rattle.transfer.proofs.BagsInPlace.{as_many, bags_nth, lists_nth, nth}
use Rattle.transfer.proofs.Faults.{flat_more, flat_refused, flat_share}
use Rattle.transfer.proofs.store.bag_keys.open_keys.Goals as goal

pub open_keys_among-requires-clause-fit : goal.open_keys_among-requires-clause-fit
open_keys_among-requires-clause-fit g c =
    let text = c.args.text.now in
    let place = nth c.args.places.now c.loop-place.place-index in
    let lists = lists_nth text c.args.places.now c.loop-place.place-index c.requires.bags (omega arith) in
    subst (All BagFits) (sym c.bags_at-bags.ensures.are) (bags_fit (at_place place text) (bags_there text place) (listed (at_place place text) lists.1))

pub returns-in_err-open_keys_among-clause-refused : goal.returns-in_err-open_keys_among-clause-refused
returns-in_err-open_keys_among-clause-refused g c =
    let p = err_from_is_err_and c.from_residual.result c.from_residual.ensures.1 in
    let i = c.loop-place.invariant in
    let b = c.args.budget.now in
    let now = c.loop-place.budget.spent in
    let text = c.args.text.now in
    let places = c.args.places.now in
    let at = c.loop-place.place-index in
    rw (p.1, p.2) (flat_refused (of_keys c.args.password.now b.limit) shrouded_among b.limit b.spent now (contents_at text places) at
    (bags_there text (nth places at)) c.loop-place.keys _ _ _ c.in_err-open_keys_among.field-0.0 (omega (arith, as_many text places)) (bags_nth text places at (omega arith)) i.done i.spent.1 i.steps
    (subst (λ limit. RefusedAfter (IsFirstFault (of_keys c.args.password.now limit) limit now (shrouded_among (bags_there text (nth places at)))) c.loop-place.steps c.open_keys_among.new.steps c.in_err-open_keys_among.field-0.0) i.spent.0
    (rw (sym c.bags_at-bags.ensures.are) c.in_err-open_keys_among.ensures.refused)))

pub loop-place-preserved : goal.loop-place-preserved
loop-place-preserved g c =
    let i = c.loop-place.invariant in
    let o = c.in_ok-open_keys_among.ensures.opened in
    let b = c.args.budget.now in
    let now = c.loop-place.budget.spent in
    let text = c.args.text.now in
    let places = c.args.places.now in
    let at = c.loop-place.place-index in
    let bags = bags_there text (nth places at) in
    let more = flat_share key_share shrouded_among (contents_at text places) at bags (omega (arith, as_many text places)) (bags_nth text places at (omega arith)) in
    let same = ap (λ t. sum_by key_share (shrouded_among t)) c.bags_at-bags.ensures.are in
    record {
      done = rw (o.0.grows) (flat_more (of_keys c.args.password.now b.limit) shrouded_among b.limit b.spent now (contents_at text places) at
          bags c.loop-place.keys o.0.made (omega (arith, as_many text places)) (bags_nth text places at (omega arith)) i.done i.spent.1
          (subst (λ limit. AreOpen (of_keys c.args.password.now limit) limit now (shrouded_among bags) o.0.made) i.spent.0 (rw (sym c.bags_at-bags.ensures.are) o.0.opened)));
      stored = c.in_ok-open_keys_among.ensures.stored;
      spent = (omega (arith, o.1.0, i.spent.0), omega (arith, more, o.1.1, i.spent.1, same));
      steps = omega (arith, more, o.2, i.steps, same);
    }

use Rattle.std.proofs.Common.{[], ◌∷◌, ◌++◌, ◌∙◌, ap₂, arith, sym}
use Rattle.transfer.specs.OpenedSafe.{bags_there, contents_at}
use Rattle.transfer.proofs.BagsInPlace.{as_many, bags_nth, lists_nth, nth, take_each}
use Rattle.transfer.proofs.Faults.{take_one}
use Rattle.transfer.proofs.store.safe.owned_contents.Goals as goal

pub bags_at-requires : goal.bags_at-requires
bags_at-requires c = lists_nth c.args.text.now c.args.places.now c.loop-place.place-index c.requires (omega arith)

pub loop-place-preserved : goal.loop-place-preserved
loop-place-preserved c =
    let text = c.args.text.now in
    let places = c.args.places.now in
    let i = c.loop-place.place-index in
    record {
      taken = c.in_ok-push.ensures.ok ∙ ap₂ (λ xs x. xs ++ x ∷ []) c.loop-place.invariant.taken (c.in_ok-bags.ensures ∙ c.bags_at.ensures.are)
          ∙ sym (take_one (contents_at text places) i (bags_there text (nth places i)) (omega (arith, as_many text places)) (bags_nth text places i (omega arith)));
    }

pub returns : goal.returns
returns c = c.loop-place.invariant.taken ∙ take_each c.args.text.now c.args.places.now c.loop-place.place-index (omega arith)

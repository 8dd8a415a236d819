use Rattle.std.proofs.Common.{◌++◌, ◌∙◌, ap, arith, sym, take}
use Rattle.p12.specs.Collected.{certificates_among}
use Rattle.transfer.specs.OpenedSafe.{bags_there, contents_at}
use Rattle.transfer.specs.Opening.{all_certificates}
use Rattle.transfer.proofs.BagsInPlace.{as_many, bags_nth, lists_nth, nth, take_each}
use Rattle.transfer.proofs.Faults.{flat_one}
use Rattle.transfer.proofs.store.certificates.certificates_of.Goals as goal

pub bags_at-bags-requires : goal.bags_at-bags-requires
bags_at-bags-requires c = lists_nth c.args.text.now c.args.places.now c.loop-place.place-index c.requires (omega arith)

pub loop-place-preserved : goal.loop-place-preserved
loop-place-preserved c =
    let text = c.args.text.now in
    let places = c.args.places.now in
    let i = c.loop-place.place-index in
    record {
      taken = c.in_ok-add_certificates.ensures ∙ ap (λ t. t ++ certificates_among c.bags_at-bags.result.left) c.loop-place.invariant.taken
          ∙ ap (λ g. all_certificates (take i (contents_at text places)) ++ certificates_among g) c.bags_at-bags.ensures.are
          ∙ sym (flat_one certificates_among (contents_at text places) i (bags_there text (nth places i)) (omega (arith, as_many text places)) (bags_nth text places i (omega arith)));
    }

pub returns : goal.returns
returns c = c.loop-place.invariant.taken ∙ ap all_certificates (take_each c.args.text.now c.args.places.now c.loop-place.place-index (omega arith))

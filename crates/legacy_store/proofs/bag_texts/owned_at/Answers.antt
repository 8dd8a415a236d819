use Rattle.std.proofs.Common.{subst, sym}
use Rattle.p12.specs.Place.{at_place}
use Rattle.p12.specs.SafeBag.{IsBags}
use Rattle.p12.proofs.DefinitionLaws.{bags_are}
use Rattle.legacy_store.proofs.ContentTexts.{slice_at}
use Rattle.legacy_store.proofs.bag_texts.owned_at.Goals as goal

pub returns-in-Ok : goal.returns-in-Ok
returns-in-Ok c =
    let place = c.args.place in
    let text = c.args.text.now in
    sym (bags_are (at_place place text) c.in-Ok.bags (subst (λ t. IsBags t c.in-Ok.bags) (slice_at place text) c.in-Ok.ensures.ok))

use Rattle.std.proofs.Common.{refl}
use Rattle.pkcs12_inspection.specs.Pairs.{has_key_id}
use Rattle.pkcs12_inspection.proofs.Places.{position_take}
use Rattle.pkcs12_inspection.proofs.listing.first_places.Goals as goal

pub loop-place-preserved : goal.loop-place-preserved
loop-place-preserved c = λ q. rw (c.in_ok-note_place.ensures q, c.loop-place.invariant q, position_take (has_key_id q) c.args.labels.now c.loop-place.place c.index-labels-place.result c.loop-place-test.true, ← c.index-labels-place.is) refl

use Rattle.std.proofs.Common.{◌≡◌, Some, sym}
use Rattle.std.specs.BTreeMap as tree
use Rattle.std.specs.Cmp.Lexicographic.{slice_cmp}
use Rattle.std.specs.Ordering.{nat_cmp}
use Rattle.std.proofs.lemmas.Map.Text.{btree_map_updates_str}
use Rattle.pkcs12_inspection.proofs.Places.{noted}
use Rattle.pkcs12_inspection.proofs.listing.note_place.Goals as goal

pub returns-in_ok-insert : goal.returns-in_ok-insert
returns-in_ok-insert c = λ q. let u = btree_map_updates_str c.in-Some.id.now c.args.places.now c.insert.new.self _ c.in_ok-insert.ensures.updates in
    let e : c.args.label.now.local_key_id ≡ Some c.in-Some.id.now = sym c.in-Some.ensures in
    rw (u q, e) (noted (λ ds. tree.get_by (λ k. slice_cmp nat_cmp ds k.now) c.args.places.now) c.in-Some.id.now q c.args.place c.if-not-contains_key.ensures)

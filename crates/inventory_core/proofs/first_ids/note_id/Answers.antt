use Rattle.std.proofs.Common.{refl}
use Rattle.std.proofs.lemmas.Map.Text.{btree_map_updates_str}
use Rattle.inventory_core.proofs.first_ids.note_id.Goals as goal

pub returns-in_ok-insert-in-Some : goal.returns-in_ok-insert-in-Some
returns-in_ok-insert-in-Some c = λ q.
    let u = btree_map_updates_str c.as_slice.result.now c.args.firsts.now c.insert.new.self _ c.in_ok-insert-in-Some.ensures.updates in
    rw (u q, c.as_slice.ensures, c.in-Some.is) refl

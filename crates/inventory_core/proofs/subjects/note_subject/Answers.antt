use Rattle.std.proofs.lemmas.Map.Text.{btree_map_updates_str}
use Rattle.std.proofs.Common.{refl}
use Rattle.inventory_core.proofs.subjects.note_subject.Goals as goal

pub returns-in_ok-namesake-in-Some-clause-firsts : goal.returns-in_ok-namesake-in-Some-clause-firsts
returns-in_ok-namesake-in-Some-clause-firsts c = λ name.
    let u = btree_map_updates_str c.in-Some.certificate.subject.now c.args.firsts.now c.insert.new.self _ c.in_ok-namesake-in-Some.ensures.updates in
    rw (u name, c.in-Some.is) refl

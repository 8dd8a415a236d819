use Rattle.std.proofs.Common.{subst, sym, ◌∙◌}
use Rattle.std.proofs.lemmas.Result.{err_from_is_err_and}
use Rattle.passdb_core.specs.Entries.{AreEntries}
use Rattle.passdb_core.proofs.Files.{entries_more, malformed_as, no_front, text_more}
use Rattle.passdb_core.proofs.file.read_front.Goals as goal

pub loop-db-preserved : goal.loop-db-preserved
loop-db-preserved c =
    let i = c.loop-db.invariant in
    let r = c.in_ok-rest.ensures.read in
    record {
      rounds = c.in_ok-rest.ensures.rounds ∙ i.rounds;
      entries = subst AreEntries (sym r.3) (entries_more c.loop-db.db.entries r.0 r.1 i.entries r.2.named r.2.entry r.2.above);
      spelled = rw r.3 (text_more c.args.text.now c.loop-db.db.entries c.loop-db.rest.now r.0 r.1 c.in_ok-rest.rest.now i.spelled r.2.spelled);
    }

pub returns-in_err-rest-clause-refused : goal.returns-in_err-rest-clause-refused
returns-in_err-rest-clause-refused c =
    let p = err_from_is_err_and c.from_residual.result c.from_residual.ensures.1 in
    let i = c.loop-db.invariant in
    rw (p.1, p.2) (malformed_as _ _ c.in_err-rest.field-0.0 (no_front c.args.text.now c.loop-db.db.entries c.loop-db.rest.now i.entries i.spelled c.loop-db-test.ensures) c.in_err-rest.ensures.refused)

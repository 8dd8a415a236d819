use Rattle.std.proofs.Common.{◌≡◌, ◌++◌, length}
use Rattle.passdb_core.specs.Entries.{AreEntries, text_of}
use Rattle.passdb_core.proofs.file.read_front.Given as goal

abbrev pub invariant-loop-db : goal.invariant-loop-db
invariant-loop-db l = record {
  rounds : l.db.rounds ≡ l.fn.db.rounds;
  entries : AreEntries l.db.entries;
  spelled : l.text ≡ text_of l.db.entries ++ l.rest;
}

abbrev pub decreases-loop-db : goal.decreases-loop-db
decreases-loop-db l = length l.rest

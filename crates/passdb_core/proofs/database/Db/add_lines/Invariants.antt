use Rattle.std.proofs.Common.{◌≡◌, ◌++◌, All, map}
use Rattle.std.specs.List.{flat_map}
use Rattle.std.specs.Map.Iter.{deref_pair}
use Rattle.frame.specs.DueText.{joined}
use Rattle.passdb_core.specs.Entries.{IsNamed, line}
use Rattle.passdb_core.proofs.database.Db.add_lines.Given as goal

abbrev pub invariant-loop-name : goal.invariant-loop-name
invariant-loop-name l = record {
  spelled : joined l.lines ≡ joined l.fn.lines ++ flat_map line (map deref_pair l.yielded);
  named : All IsNamed (map deref_pair l.yielded);
}

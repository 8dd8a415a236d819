use Rattle.std.proofs.Common.{◌≡◌, All, map}
use Rattle.std.specs.List.{flat_map}
use Rattle.std.specs.String.{string_bytes}
use Rattle.std.specs.Map.Iter.{deref_pair}
use Rattle.passdb_core.specs.Entries.{IsNamed, line}
use Rattle.passdb_core.proofs.database.Db.to_text.Given as goal

abbrev pub invariant-loop-name : goal.invariant-loop-name
invariant-loop-name l = record {
  spelled : string_bytes l.text ≡ flat_map line (map deref_pair l.yielded);
  named : All IsNamed (map deref_pair l.yielded);
}

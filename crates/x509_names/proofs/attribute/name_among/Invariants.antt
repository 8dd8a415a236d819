use Rattle.std.proofs.Common.{◌≡◌, map, drop}
use Rattle.x509_names.specs.Names.{name_in, seen_row}
use Rattle.x509_names.proofs.attribute.name_among.Given as goal

abbrev pub invariant-loop-row : goal.invariant-loop-row
invariant-loop-row l = name_in (drop l.row-index (map seen_row l.rows)) l.kind ≡ name_in (map seen_row l.rows) l.kind

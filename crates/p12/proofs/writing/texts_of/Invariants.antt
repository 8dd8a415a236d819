use Rattle.std.proofs.Common.{◌≡◌, ◌++◌, drop, map}
use Rattle.std.specs.Prelude.{All}
use Rattle.p12.proofs.writing.texts_of.Given as goal

abbrev pub invariant-loop-row : goal.invariant-loop-row
invariant-loop-row g l =
    (map g.T.GrammarRow.canon l.rows ≡ l.texts ++ map g.T.GrammarRow.canon (drop l.row-index l.rows)) × (All g.T.GrammarRow.writable (drop l.row-index l.rows) → All g.T.GrammarRow.writable l.rows)

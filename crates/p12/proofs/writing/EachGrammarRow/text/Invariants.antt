use Rattle.std.proofs.Common.{◌≡◌, ◌++◌, drop, map}
use Rattle.std.specs.Prelude.{All}
use Rattle.asn1_core.specs.Der.{IsShort, joined}
use Rattle.p12.proofs.writing.EachGrammarRow.text.Given as goal

abbrev pub invariant-loop-row : goal.invariant-loop-row
invariant-loop-row g l =
    (joined (map g.T.GrammarRow.canon l.rows) ≡ l.all ++ joined (map g.T.GrammarRow.canon (drop l.row-index l.rows))) × IsShort l.all × (All g.T.GrammarRow.writable (drop l.row-index l.rows) → All g.T.GrammarRow.writable l.rows)

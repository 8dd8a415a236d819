use Rattle.std.proofs.Common.{sym, ◌∙◌}
use Rattle.x509_names.specs.Names.{seen_row}
use Rattle.x509_names.proofs.NameTexts.{row_passed}
use Rattle.x509_names.proofs.attribute.name_among.Goals as goal

pub loop-row-preserved : goal.loop-row-preserved
loop-row-preserved c = row_passed seen_row _ _ _ _ c.loop-row-test.true c.loop-row.invariant (sym c.eq.ensures ∙ c.if-eq.false)

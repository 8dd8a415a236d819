use Rattle.passdb_core.proofs.EntryTexts.{entry_utf8}
use Rattle.passdb_core.proofs.reading.entry_of.Goals as goal

pub returns-in_default : goal.returns-in_default
returns-in_default c = λ e is same. c.in_default.ensures.cases.0 (entry_utf8 c.args.text.now e is same)

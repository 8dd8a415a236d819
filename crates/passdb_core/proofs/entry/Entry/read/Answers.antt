use Rattle.passdb_core.proofs.EntryTexts.{not_read, read_from}
use Rattle.passdb_core.proofs.entry.Entry.read.Goals as goal

pub returns-in_default : goal.returns-in_default
returns-in_default c = not_read c.args.text.now c.in_default.ensures.err.1

pub returns : goal.returns
returns c = read_from c.args.text.now c.in-Ok.phc c.of.result c.in-Ok.ensures.ok c.of.ensures

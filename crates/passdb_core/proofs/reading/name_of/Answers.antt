use Rattle.phc_core.proofs.Ascii.{ident_utf8}
use Rattle.passdb_core.proofs.reading.name_of.Goals as goal

pub returns-in_default : goal.returns-in_default
returns-in_default c = λ is. c.in_default.ensures.cases.0 (ident_utf8 c.args.text.now is)

use Rattle.frame.proofs.Lines.{text_cause}
use Rattle.inventory_core.proofs.TwoLines.{no_line, second}
use Rattle.inventory_core.proofs.input_line.read_line.Goals as goal

pub returns-in-Err-clause-cause : goal.returns-in-Err-clause-cause
returns-in-Err-clause-cause c = text_cause _ _ c.in-Err.e (no_line c.args.text.items) c.in-Err.ensures.cause

pub returns-in-Some-clause-cause : goal.returns-in-Some-clause-cause
returns-in-Some-clause-cause c = second c.args.text.items _ _ _ c.in-Ok.ensures.found c.in-Some.is

use Rattle.std.proofs.Common.{refl}
use Rattle.der_core.specs.DocumentLaws.{sequence_refused}
use Rattle.der_core.proofs.document.check_sequence.Goals as goal

pub returns-in-Err-clause-err : goal.returns-in-Err-clause-err
returns-in-Err-clause-err c = (refl, sequence_refused c.args.octets.now c.in-Err.field-0 c.in-Err.ensures)

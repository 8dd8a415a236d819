use Rattle.std.proofs.Common.{arith}
use Rattle.block_core.specs.FieldLaws.{times_x_code}
use Rattle.block_core.proofs.field.times_x.Goals as goal

pub returns : goal.returns
returns c = times_x_code c.args.a (omega arith)

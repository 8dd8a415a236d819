use Rattle.std.proofs.Common.{arith}
use Rattle.block_core.proofs.Joined.{column_is}
use Rattle.block_core.proofs.aes_tables.sub_and_mix.Goals as goal

pub returns : goal.returns
returns c = column_is c.args.a c.args.b c.args.c c.args.d (omega arith) (omega arith) (omega arith) (omega arith)

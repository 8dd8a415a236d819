use Rattle.std.proofs.Common.{arith}
use Rattle.block_core.proofs.Joined.{inv_column_is}
use Rattle.block_core.proofs.aes_tables.inv_sub_and_inv_mix.Goals as goal

pub returns : goal.returns
returns c = inv_column_is c.args.a c.args.b c.args.c c.args.d (omega arith) (omega arith) (omega arith) (omega arith)

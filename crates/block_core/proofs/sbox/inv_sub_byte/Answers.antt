use Rattle.std.proofs.Common.{arith}
use Rattle.block_core.specs.SboxLaws.{inv_sbox_entry}
use Rattle.block_core.proofs.sbox.inv_sub_byte.Goals as goal

pub returns : goal.returns
returns c = inv_sbox_entry c.args.a (omega arith)

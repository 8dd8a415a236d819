use Rattle.std.proofs.Common.{arith}
use Rattle.block_core.specs.SboxLaws.{sbox_entry}
use Rattle.block_core.proofs.sbox.sub_byte.Goals as goal

pub returns : goal.returns
returns c = sbox_entry c.args.a (omega arith)

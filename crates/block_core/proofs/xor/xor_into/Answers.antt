use Rattle.std.proofs.Common.{arith}
use Rattle.block_core.specs.BitsLaws.{xored}
use Rattle.block_core.proofs.xor.xor_into.Goals as goal

pub returns : goal.returns
returns c = xored c.args.octets.now c.args.other.now c.loop-i.octets (c.requires) (omega arith) (λ i h. c.loop-i.invariant.0 i (omega arith))

use Rattle.std.proofs.Common.{arith, ◌-◌, get_or}
use Rattle.block_core.specs.Bits.{pick}
use Rattle.block_core.proofs.Groups.{mapped_by}
use Rattle.block_core.proofs.bits.pick_bits.Goals as goal

pub returns : goal.returns
unfolding pick
returns c =
    mapped_by (λ p. get_or c.args.bits.now (p - 1) 0) c.loop-i.out c.args.table.now (omega arith)
    (λ k h. c.loop-i.invariant k (omega arith))

use Rattle.std.proofs.Common.{arith, ◌-◌, ◌/◌, ◌%◌, ◌^◌, length}
use Rattle.block_core.specs.Bits.{bits_of}
use Rattle.std.proofs.lemmas.List.FromFn.{fill_by_all}
use Rattle.block_core.proofs.bits.write_bits.Goals as goal

pub returns : goal.returns
unfolding bits_of
returns c =
    fill_by_all (λ k. c.args.n / 2 ^ (length c.args.out.now - 1 - k) % 2) c.loop-i.out (length c.args.out.now) 0 (omega arith)
    (λ k h. c.loop-i.invariant k (omega arith))

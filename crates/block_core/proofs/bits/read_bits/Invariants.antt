use Rattle.std.proofs.Common.{◌≡◌, take}
use Rattle.block_core.specs.Bits.{number_of}
use Rattle.block_core.proofs.bits.read_bits.Given as goal

abbrev pub invariant-loop-i : goal.invariant-loop-i
invariant-loop-i l =
    l.n ≡ number_of (take l.i l.bits)

use Rattle.std.proofs.Common.{◌≡◌, ◌*◌, ◌++◌, take, drop}
use Rattle.block_core.specs.Bits.{bits_of_octets}
use Rattle.block_core.proofs.bits.to_bits.Given as goal

abbrev pub invariant-loop-i : goal.invariant-loop-i
invariant-loop-i l =
    take (8 * l.i) l.bits ++ bits_of_octets (drop l.i l.octets) ≡ bits_of_octets l.octets

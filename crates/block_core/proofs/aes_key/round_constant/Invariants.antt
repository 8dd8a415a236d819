use Rattle.std.proofs.Common.{◌≡◌}
use Rattle.block_core.specs.Field.{power_of_x}
use Rattle.block_core.proofs.aes_key.round_constant.Given as goal

abbrev pub invariant-loop-i : goal.invariant-loop-i
invariant-loop-i l = l.c ≡ power_of_x l._i

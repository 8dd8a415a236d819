use Rattle.std.proofs.Common.{◌≡◌, ◌-◌, ◌<◌, ℕ, get_or}
use Rattle.block_core.proofs.bits.pick_bits.Given as goal

abbrev pub invariant-loop-i : goal.invariant-loop-i
invariant-loop-i l =
    (k : ℕ) → k < l.i → get_or l.out k 0 ≡ get_or l.bits (get_or l.table k 0 - 1) 0

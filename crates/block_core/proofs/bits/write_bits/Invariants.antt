use Rattle.std.proofs.Common.{◌≡◌, ◌-◌, ◌/◌, ◌%◌, ◌^◌, ◌<◌, ℕ, get_or}
use Rattle.block_core.proofs.bits.write_bits.Given as goal

abbrev pub invariant-loop-i : goal.invariant-loop-i
invariant-loop-i l =
    (k : ℕ) → k < l.i → get_or l.out k 0 ≡ l.n / 2 ^ (l.w - 1 - k) % 2

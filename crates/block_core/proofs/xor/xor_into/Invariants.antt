use Rattle.std.proofs.Common.{◌≡◌, ℕ, ◌<◌, ◌≤◌, get_or, bit_xor}
use Rattle.block_core.proofs.xor.xor_into.Given as goal

abbrev pub invariant-loop-i : goal.invariant-loop-i
invariant-loop-i l =
    ((k : ℕ) → k < l.i → get_or l.octets k 0 ≡ bit_xor (get_or l.fn.octets k 0) (get_or l.fn.other k 0))
    × ((k : ℕ) → l.i ≤ k → get_or l.octets k 0 ≡ get_or l.fn.octets k 0)

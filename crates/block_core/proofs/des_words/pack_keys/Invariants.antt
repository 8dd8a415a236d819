use Rattle.std.proofs.Common.{◌≡◌, ℕ, length, ◌<◌, ◌+◌, ◌*◌, get_or, take, drop}
use Rattle.block_core.specs.DesWords.{key_of}
use Rattle.block_core.proofs.des_words.pack_keys.Given as goal

abbrev pub invariant-loop-i : goal.invariant-loop-i
invariant-loop-i l =
    (length l.keys ≡ 32)
    × ((k : ℕ) → k < l.i → key_of (get_or l.keys (2 * k) 0) (get_or l.keys (2 * k + 1) 0) ≡ take 48 (drop (48 * k) l.bits))

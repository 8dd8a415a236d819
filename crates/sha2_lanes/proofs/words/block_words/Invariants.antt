use Rattle.std.proofs.Common.{◌≡◌, ℕ, [], ◌*◌, ◌<◌, length, slice_index, slice_index_or}
use Rattle.sha2.specs.Sha256.{word_at}
use Rattle.sha2_lanes.specs.Lanes.{lane}
use Rattle.sha2_lanes.proofs.words.block_words.Given as goal

abbrev pub invariant-words : goal.invariant-words
invariant-words l = (length l.words ≡ 16)
    × ((j : ℕ) → j < 4 → (k : ℕ) → k < l.i → slice_index (lane j l.words) k ≡ word_at (slice_index_or l.blocks j []) (4 * k))

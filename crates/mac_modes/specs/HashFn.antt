-- What the sizes of a hash function may be.
use Rattle.std.specs.Prelude.{ℕ, ◌<◌, ◌≤◌}

-- a result has 1 to 64 octets, and fits a block, which has at most 128
pub record HashSizes (output block : ℕ) : Type 0 where
  pub some : 0 < output
  pub answer_fits : output ≤ 64
  pub within_block : output ≤ block
  pub block_fits : block ≤ 128

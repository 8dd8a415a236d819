-- What the sizes of a keyed function may be.
use Rattle.std.specs.Prelude.{ℕ, ◌<◌, ◌≤◌}

-- a result has 1 to 64 octets
pub record PrfSizes (output : ℕ) : Type 0 where
  pub some : 0 < output
  pub answer_fits : output ≤ 64

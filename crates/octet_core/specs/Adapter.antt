-- What a draw, a source or a sink over an object of the outside is.
use Rattle.std.specs.Prelude.{ℕ}

-- the object after it, and how often a call failed
pub record Adapter (R : Type 0) : Type 0 where
  pub inner : R
  pub faults : ℕ

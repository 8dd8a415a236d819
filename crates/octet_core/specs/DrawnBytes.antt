-- What a draw over known octets is.
use Rattle.std.specs.Prelude.{ℕ, List}

-- the octets still to come, and how often a fill failed
pub record DrawnState : Type 0 where
  pub left : List ℕ
  pub faults : ℕ

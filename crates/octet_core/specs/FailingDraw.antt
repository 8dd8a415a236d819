-- What a draw that fails at listed calls is.
use Rattle.std.specs.Prelude.{ℕ, List, Contains}

-- the draw behind it, the numbers of the calls that fail, the number of the next call, and how
-- often a fill failed
pub record FailingState (D : Type 0) : Type 0 where
  pub inner : D
  pub failing : List ℕ
  pub call : ℕ
  pub faults : ℕ

-- the next call is one of those that fail
abbrev pub IsListed : {D : Type 0} → FailingState D → Type 0
IsListed d = Contains d.failing d.call

-- Where a text is split into two lines.
use Rattle.std.specs.Prelude.{ℕ, ◌<◌, ◌≡◌, ◌≢◌, List, [], ◌∷◌, ◌++◌, length, slice_index}

-- The first line feed (10) is between these parts, and something comes after it.
pub record IsSplit (text first second : List ℕ) : Type 0 where
  pub parts : text ≡ first ++ 10 ∷ second
  pub one_line : (k : ℕ) → k < length first → slice_index first k ≢ 10
  pub more : second ≢ []

-- Nothing comes after a line feed.
abbrev pub IsUnsplit : List ℕ → Type 0
IsUnsplit text = (first second : List ℕ) → text ≡ first ++ 10 ∷ second → second ≡ []

-- What a write promises.
use Rattle.std.specs.Prelude.{ℕ, ◌≡◌, List, [], take, Option, Result, MatchResult}
use Rattle.std.specs.Io.KnownBytes.{Appends, Keeps}

-- A write of a piece: at Ok(n) the first n octets of the piece were taken, at least one of a piece
-- that has any. A failed write takes nothing.
abbrev pub Writes : {E : Type 0} → Option (List ℕ) → Option (List ℕ) → Result ℕ E → List ℕ → Type 0
Writes old new r piece = MatchResult r (λ n. Appends old new (take n piece) × (n ≡ 0 → piece ≡ []))
    (λ _. Keeps old new)

-- What a read promises.
use Rattle.std.specs.Prelude.{ℕ, ◌<◌, ◌≡◌, List, length, take, Option, Result, MatchResult}
use Rattle.std.specs.Io.KnownBytes.{Consumes, IsAtEnd, Keeps}

-- A read of a buffer: at Ok(n) the first n octets of the buffer are the next ones, and n is 0 for a
-- buffer with room only at the end. A failed read takes nothing.
abbrev pub Reads : {E : Type 0} → Option (List ℕ) → Option (List ℕ) → Result ℕ E → List ℕ → Type 0
Reads old new r buf =
    MatchResult r (λ n. Consumes old new (take n buf) × (n ≡ 0 → 0 < length buf → IsAtEnd new))
    (λ _. Keeps old new)

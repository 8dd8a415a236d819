-- What a source over octets in memory is.
use Rattle.std.specs.Prelude.{ℕ, List, length, drop, min, Bool, if◌then◌else◌, ◌==◌}
use Rattle.std.specs.List.{list_any}
use Rattle.octet_core.specs.Faults.{one_more}

-- A source: what is still to come, how much one read gives at most, the numbers of the calls that
-- fail, the number of the next call, and how many reads have failed.
pub record SourceState : Type 0 where
  pub rest : List ℕ
  pub piece : ℕ
  pub failing : List ℕ
  pub call : ℕ
  pub faults : ℕ

-- Whether the next read fails.
abbrev pub read_fails : SourceState → Bool
read_fails s = list_any (λ n. n == s.call) s.failing

-- How many octets the next read gives into a buffer, if it doesn't fail.
abbrev pub read_count : SourceState → ℕ → ℕ
read_count s room = min (min s.piece room) (length s.rest)

-- The source after a read.
abbrev pub after_read : SourceState → ℕ → SourceState
after_read s room = if read_fails s
    then record s { call = one_more s.call; faults = one_more s.faults }
    else record s { rest = drop (read_count s room) s.rest; call = one_more s.call }

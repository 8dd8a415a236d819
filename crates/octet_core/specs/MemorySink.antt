-- What a sink in memory is.
use Rattle.std.specs.Prelude.{ℕ, ◌-◌, List, ◌++◌, length, take, Bool, if◌then◌else◌, ◌==◌, ◌&&◌, ◌||◌, nat_lt}
use Rattle.std.specs.List.{list_any}
use Rattle.octet_core.specs.Faults.{one_more}

-- A sink: what was written, how much more it takes, the numbers of the calls that fail, the number
-- of the next call, and how many writes have failed.
pub record SinkState : Type 0 where
  pub written : List ℕ
  pub room : ℕ
  pub failing : List ℕ
  pub call : ℕ
  pub faults : ℕ

-- Whether the next write of a piece fails.
abbrev pub write_fails : SinkState → List ℕ → Bool
write_fails s piece = list_any (λ n. n == s.call) s.failing
    || (nat_lt 0 (length piece) && (s.room == 0))

-- The sink after a write of a piece.
abbrev pub after_write : SinkState → List ℕ → SinkState
after_write s piece = if write_fails s piece
    then record s { call = one_more s.call; faults = one_more s.faults }
    else record s {
      written = s.written ++ take s.room piece;
      room = s.room - length (take s.room piece);
      call = one_more s.call;
    }

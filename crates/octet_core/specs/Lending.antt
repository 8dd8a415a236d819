-- What octets become where they are lent to be changed.
use Rattle.std.specs.Prelude.{ℕ, List, ◌++◌, take, drop, length}
use Rattle.std.specs.Borrow.{Lends, MutBor, Fml, u8, Array}
use Rattle.octet_core.specs.contracts.octets.Octets.{the_row}

-- the octets with w written over them: w itself, where it has as many
abbrev pub written_over : List ℕ → List ℕ → List ℕ
written_over octets w = take (length octets) (w ++ drop (length w) octets)

-- they end as what is left after the slice
abbrev pub LendsAll : MutBor (List ℕ) → MutBor (List ℕ) → Fml
LendsAll s r = Lends the_row (Array u8 0) s r (written_over s.now)

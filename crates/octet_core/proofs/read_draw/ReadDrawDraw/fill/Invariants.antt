use Rattle.std.proofs.Common.{◌≡◌, ◌≤◌, ◌-◌, length, take}
use Rattle.std.specs.Io.KnownBytes.{Consumes}
use Rattle.octet_core.proofs.read_draw.ReadDrawDraw.fill.Given as goal

abbrev pub invariant-loop-at : goal.invariant-loop-at
invariant-loop-at g l = (length l.out ≡ length l.initial.out) × (l.at ≤ length l.out) × (l.self-inside.faults ≡ l.initial.self-inside.faults) × Consumes (g.R.Read.remaining l.initial.self-inside.reader) (g.R.Read.remaining l.self-inside.reader) (take l.at l.out)

abbrev pub decreases-loop-at : goal.decreases-loop-at
decreases-loop-at g l = length l.out - l.at

use Rattle.std.proofs.Common.{◌≡◌, ◌*◌, length}
use Rattle.std.specs.Io.KnownBytes.{Consumes}
use Rattle.std.specs.Prelude.{All}
use Rattle.sealing_core.specs.Drawn.{AreOf16, octets_of}
use Rattle.sealing_core.proofs.drawn.draw_each.Given as goal

abbrev pub invariant-loop-place : goal.invariant-loop-place
invariant-loop-place g l = record {
  took : Consumes (g.D.Draw.left l.fn.draw) (g.D.Draw.left l.draw) (octets_of l.drawn);
  lengths : All AreOf16 l.drawn;
  many : length l.drawn ≡ l._place;
  each_32 : length (octets_of l.drawn) ≡ 32 * l._place;
  faults : g.D.Draw.faults l.draw ≡ g.D.Draw.faults l.fn.draw;
}

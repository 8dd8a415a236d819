use Rattle.std.proofs.Common.{◌≡◌, ◌+◌, length}
use Rattle.rekey_core.specs.Sealing.{bags_draw}
use Rattle.rekey_core.proofs.drawing.add_bags_room.Given as goal

abbrev pub invariant-loop-bag : goal.invariant-loop-bag
invariant-loop-bag l = length l.room + bags_draw l.to l.rest ≡ length l.fn.room + bags_draw l.to l.bags

abbrev pub decreases-loop-bag : goal.decreases-loop-bag
decreases-loop-bag l = length l.rest

use Rattle.std.proofs.Common.{◌≡◌}
use Rattle.rekey_core.proofs.Listing.{Done}
use Rattle.rekey_core.proofs.list.rekey_all.Given as goal

abbrev pub invariant-loop-password : goal.invariant-loop-password
invariant-loop-password g l =
    Done l.store l.fn.passwords l.others l.password-index l.limit (g.D.Draw.left l.fn.draw) (g.D.Draw.left l.draw) (g.D.Draw.faults l.fn.draw) (g.D.Draw.faults l.draw) l.fn.steps l.steps l.old l.changed
    × (l.password-index ≡ 0 → l.draw ≡ l.fn.draw)
    × (g.D.Draw.faults l.draw ≡ g.D.Draw.faults l.fn.draw)

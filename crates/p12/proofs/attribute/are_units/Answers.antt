use Rattle.std.proofs.Common.{rules}
use Rattle.p12.proofs.UnitsPass.{units_more}
use Rattle.p12.proofs.attribute.are_units.Goals as goal

pub loop-first-preserved : goal.loop-first-preserved
loop-first-preserved c = units_more c.args.octets.now c.loop-first.rest.now c.in-Some.behind.now c.in-Some-split_first.after.now c.loop-first.high c.is_high-high.result c.in-Some.first.now c.in-Some-split_first.second.now c.loop-first.invariant (search rules) (search rules) (rw (← c.from.ensures, ← c.from-in-Some.ensures, ← c.is_low.ensures, ← c.agrees.ensures) c.if-not-agrees.false) (rw (← c.from.ensures, ← c.from-in-Some.ensures) c.is_high-high.ensures)

use Rattle.std.proofs.Common.{◌≡◌, false, length}
use Rattle.p12.specs.Units.{units_pass}
use Rattle.p12.proofs.attribute.are_units.Given as goal

abbrev pub invariant-loop-first : goal.invariant-loop-first
invariant-loop-first l = units_pass false l.fn.octets ≡ units_pass l.high l.rest

abbrev pub decreases-loop-first : goal.decreases-loop-first
decreases-loop-first l = length l.rest

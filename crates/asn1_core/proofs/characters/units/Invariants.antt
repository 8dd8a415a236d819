use Rattle.std.proofs.Common.{◌≡◌, ◌++◌, length, Ok}
use Rattle.asn1_core.specs.Reading.{◌>>=◌}
use Rattle.asn1_core.specs.Unicode.{units_in}
use Rattle.asn1_core.proofs.characters.units.Given as goal

abbrev pub invariant-loop-high : goal.invariant-loop-high
invariant-loop-high l = units_in l.initial.octets ≡ (units_in l.rest >>= λ us. Ok (l.units.items ++ us))

abbrev pub decreases-loop-high : goal.decreases-loop-high
decreases-loop-high l = length l.rest

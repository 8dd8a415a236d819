use Rattle.std.proofs.Common.{◌≡◌, ◌≤◌, drop}
use Rattle.asn1_core.specs.Reading.{number_on}
use Rattle.asn1_core.proofs.integer.number_up_to.Given as goal

abbrev pub invariant-loop-b : goal.invariant-loop-b
invariant-loop-b l = (number_on l.n (drop l.b-index l.octets) ≡ number_on 0 l.octets) × (l.n ≤ l.max)

use Rattle.std.proofs.Common.{All, take}
use Rattle.phc_core.specs.Value.{IsValueOctet}
use Rattle.phc_core.proofs.value.are_value_octets.Given as goal

abbrev pub invariant-loop-b : goal.invariant-loop-b
invariant-loop-b l = All IsValueOctet (take l.b-index l.octets)

use Rattle.std.proofs.Common.{All, take}
use Rattle.phc_core.specs.Ident.{IsNameOctet}
use Rattle.phc_core.proofs.ident.are_name_octets.Given as goal

abbrev pub invariant-loop-b : goal.invariant-loop-b
invariant-loop-b l = All IsNameOctet (take l.b-index l.octets)

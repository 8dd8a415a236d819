use Rattle.std.proofs.Common.{All, take}
use Rattle.passdb_core.specs.Commands.{IsVisible}
use Rattle.passdb_core.proofs.reading.are_visible.Given as goal

abbrev pub invariant-loop-octet : goal.invariant-loop-octet
invariant-loop-octet l = All IsVisible (take l.octet-index l.octets)

use Rattle.std.proofs.Common.{◌-◌, length, take}
use Rattle.std.specs.Fmt.{HasWritten, IsPlainFormatter}
use Rattle.asn1_core.specs.Arcs.{arcs, arcs_text}
use Rattle.asn1_core.specs.Oid.{oid_octets}
use Rattle.asn1_core.proofs.identifier.ObjectIdentifierDisplay.fmt.Given as goal

abbrev pub invariant-loop-arc : goal.invariant-loop-arc
invariant-loop-arc g l = IsPlainFormatter l.fn.f → HasWritten g.W.Write.write_str_gives l.fn.f (arcs_text (take l.i (arcs (oid_octets l.fn.self)))) l.f

abbrev pub decreases-loop-arc : goal.decreases-loop-arc
decreases-loop-arc g l = length (arcs (oid_octets l.fn.self)) - l.i

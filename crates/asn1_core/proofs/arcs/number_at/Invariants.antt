use Rattle.std.proofs.Common.{◌≡◌, drop, true}
use Rattle.asn1_core.specs.Identifier.{subidentifiers}
use Rattle.asn1_core.specs.Arcs.{values}
use Rattle.std.specs.Prelude.{slice_get}
use Rattle.asn1_core.proofs.arcs.number_at.Given as goal

abbrev pub invariant-loop-octet : goal.invariant-loop-octet
invariant-loop-octet l = (subidentifiers l.n (drop l.octet-index l.octets) ≡ true) × (slice_get (values l.n (drop l.octet-index l.octets)) l.left ≡ slice_get (values 0 l.octets) l.k)

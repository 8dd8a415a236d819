use Rattle.std.proofs.Common.{◌≡◌, ◌≤◌, ◌+◌, drop}
use Rattle.asn1_core.proofs.ArcsRead.{ends}
use Rattle.asn1_core.proofs.arcs.count.Given as goal

abbrev pub invariant-loop-octet : goal.invariant-loop-octet
invariant-loop-octet l = (l.count + ends (drop l.octet-index l.octets) ≡ 1 + ends l.octets) × (l.count ≤ 1 + l.octet-index)

use Rattle.std.proofs.Common.{◌≡◌, drop}
use Rattle.asn1_core.specs.Identifier.{subidentifiers}
use Rattle.asn1_core.proofs.subidentifiers.are_subidentifiers.Given as goal

abbrev pub invariant-loop-octet : goal.invariant-loop-octet
invariant-loop-octet l = subidentifiers l.n (drop l.octet-index l.octets) ≡ subidentifiers 0 l.octets

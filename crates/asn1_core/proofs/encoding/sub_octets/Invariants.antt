use Rattle.std.proofs.Common.{◌≡◌, ◌<◌, ◌^◌, ◌++◌, drop, length}
use Rattle.asn1_core.specs.Identifier.{high, sub}
use Rattle.asn1_core.proofs.encoding.sub_octets.Given as goal

abbrev pub invariant-loop-m : goal.invariant-loop-m
invariant-loop-m l = (l.from < 5) × (l.m < 128 ^ l.from) × (sub l.n ≡ high l.m ++ drop l.from l.octets) × (length l.octets ≡ 5)

abbrev pub decreases-loop-m : goal.decreases-loop-m
decreases-loop-m l = l.m

use Rattle.std.proofs.Common.{◌≡◌, ◌<◌, ◌+◌, ◌*◌, ◌^◌, ◌++◌, drop, length}
use Rattle.asn1_core.specs.Der.{shortest}
use Rattle.asn1_core.proofs.write.number_octets.Given as goal

abbrev pub invariant-loop-m : goal.invariant-loop-m
invariant-loop-m l = (l.from < 9) × (l.m < 128 * 256 ^ l.from) × (shortest l.n ≡ shortest l.m ++ drop (l.from + 1) l.octets) × (length l.octets ≡ 9)

abbrev pub decreases-loop-m : goal.decreases-loop-m
decreases-loop-m l = l.m

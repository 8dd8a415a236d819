use Rattle.std.proofs.Common.{◌≡◌, ◌+◌, ◌≤◌, length, drop, map}
use Rattle.asn1_core.specs.Der.{joined}
use Rattle.asn1_core.proofs.write_set.joined_len.Given as goal

abbrev pub invariant-loop-text : goal.invariant-loop-text
invariant-loop-text l = (l.total + length (joined (map (λ t. t.now) (drop l.text-index l.texts))) ≡ length (joined (map (λ t. t.now) l.texts))) × (l.total ≤ 4294967295)

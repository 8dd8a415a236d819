use Rattle.std.proofs.Common.{◌≡◌, take}
use Rattle.p12.proofs.attribute.OtherAttribute.try_clone.Given as goal

abbrev pub invariant-loop-value : goal.invariant-loop-value
invariant-loop-value l = l.values ≡ take l.value-index l.self.values

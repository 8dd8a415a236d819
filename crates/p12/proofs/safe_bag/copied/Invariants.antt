use Rattle.std.proofs.Common.{◌≡◌, take}
use Rattle.p12.proofs.safe_bag.copied.Given as goal

abbrev pub invariant-loop-attribute : goal.invariant-loop-attribute
invariant-loop-attribute l = l.copies ≡ take l.attribute-index l.attributes

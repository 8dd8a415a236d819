use Rattle.std.proofs.Common.{◌≡◌, drop}
use Rattle.p12.specs.SafeBag.{first_name}
use Rattle.p12.proofs.safe_bag.first_name.Given as goal

abbrev pub invariant-loop-attribute : goal.invariant-loop-attribute
invariant-loop-attribute l = first_name l.attributes ≡ first_name (drop l.attribute-index l.attributes)

use Rattle.std.proofs.Common.{◌≡◌, drop}
use Rattle.p12.specs.SafeBag.{first_key_id}
use Rattle.p12.proofs.safe_bag.first_key_id.Given as goal

abbrev pub invariant-loop-attribute : goal.invariant-loop-attribute
invariant-loop-attribute l = first_key_id l.attributes ≡ first_key_id (drop l.attribute-index l.attributes)

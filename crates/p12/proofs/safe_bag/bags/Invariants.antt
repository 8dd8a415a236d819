use Rattle.std.proofs.Common.{length}
use Rattle.asn1_core.specs.PartLoop.{SoFar}
use Rattle.p12.specs.Reading.{bag_at}
use Rattle.p12.proofs.safe_bag.bags.Given as goal

abbrev pub invariant-loop-body : goal.invariant-loop-body
invariant-loop-body l = SoFar bag_at l.initial.body.rest.now l.items l.body.rest.now

abbrev pub decreases-loop-body : goal.decreases-loop-body
decreases-loop-body l = length l.body.rest.now

use Rattle.std.proofs.Common.{length, List, ℕ}
use Rattle.asn1_core.specs.PartLoop.{SoFar}
use Rattle.asn1_core.specs.Reading.{raw_at}
use Rattle.p12.proofs.attribute.element_list.Given as goal

abbrev pub invariant-loop-body : goal.invariant-loop-body
invariant-loop-body l = (items : List (List ℕ)) × SoFar raw_at l.initial.body.rest.now items l.body.rest.now

abbrev pub decreases-loop-body : goal.decreases-loop-body
decreases-loop-body l = length l.body.rest.now

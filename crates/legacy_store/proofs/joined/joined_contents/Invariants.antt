use Rattle.std.proofs.Common.{length}
use Rattle.legacy_store.specs.JoinedReading.{joined_at}
use Rattle.legacy_store.proofs.Joins.{Joins}
use Rattle.legacy_store.proofs.joined.joined_contents.Given as goal

abbrev pub invariant-loop-body : goal.invariant-loop-body
invariant-loop-body l = Joins joined_at l.initial.body.rest.now l.texts l.body.rest.now

abbrev pub decreases-loop-body : goal.decreases-loop-body
decreases-loop-body l = length l.body.rest.now

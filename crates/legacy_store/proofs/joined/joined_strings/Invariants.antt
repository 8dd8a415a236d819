use Rattle.std.proofs.Common.{length}
use Rattle.asn1_core.specs.Reading.{inside_at}
use Rattle.legacy_store.proofs.Joins.{Joins}
use Rattle.legacy_store.proofs.joined.joined_strings.Given as goal

abbrev pub invariant-loop-body : goal.invariant-loop-body
invariant-loop-body l = Joins (inside_at 0x04) l.initial.body.rest.now l.octets l.body.rest.now

abbrev pub decreases-loop-body : goal.decreases-loop-body
decreases-loop-body l = length l.body.rest.now

use Rattle.std.proofs.Common.{length, List, ℕ, ◌++◌, ◌∷◌, []}
use Rattle.asn1_core.specs.PartLoop.{SoFar}
use Rattle.asn1_core.specs.Reading.{inside_at}
use Rattle.p12.proofs.attribute.last_octets.Given as goal

abbrev pub invariant-loop-found : goal.invariant-loop-found
invariant-loop-found l = (before : List (List ℕ)) × SoFar (inside_at 0x04) l.fn.body.rest.now (before ++ l.found ∷ []) l.body.rest.now

abbrev pub decreases-loop-found : goal.decreases-loop-found
decreases-loop-found l = length l.body.rest.now

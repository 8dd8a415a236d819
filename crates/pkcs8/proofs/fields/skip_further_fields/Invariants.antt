use Rattle.std.proofs.Common.{List, length}
use Rattle.asn1_core.specs.PartLoop.{SoFar}
use Rattle.pkcs8.specs.PrivateKeyInfo.{further_at}
use Rattle.pkcs8.proofs.fields.skip_further_fields.Given as goal

abbrev pub invariant-loop-r : goal.invariant-loop-r
invariant-loop-r l = (fs : List (Unit {0})) × SoFar further_at l.fn.octets fs l.r.rest.now

abbrev pub decreases-loop-r : goal.decreases-loop-r
decreases-loop-r l = length l.r.rest.now

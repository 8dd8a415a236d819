use Rattle.std.proofs.Common.{length, map}
use Rattle.asn1_core.specs.PartLoop.{SoFar}
use Rattle.x509_names.specs.Names.{seen_attribute}
use Rattle.x509_names.specs.NamesReading.{relative_at}
use Rattle.x509_names.proofs.name.relative_names.Given as goal

abbrev pub invariant-loop-body : goal.invariant-loop-body
invariant-loop-body l = SoFar relative_at l.initial.body.rest.now (map (map seen_attribute) l.items) l.body.rest.now

abbrev pub decreases-loop-body : goal.decreases-loop-body
decreases-loop-body l = length l.body.rest.now

use Rattle.std.proofs.Common.{length, List}
use Rattle.asn1_core.specs.PartLoop.{SoFar}
use Rattle.p12.specs.Reading.{attribute_at}
use Rattle.p12.specs.declared.attribute.PKCS12Attribute.{PKCS12Attribute}
use Rattle.p12.proofs.attribute.checked_list.Given as goal

abbrev pub invariant-loop-body : goal.invariant-loop-body
invariant-loop-body l = (items : List PKCS12Attribute) × SoFar attribute_at l.initial.body.rest.now items l.body.rest.now

abbrev pub decreases-loop-body : goal.decreases-loop-body
decreases-loop-body l = length l.body.rest.now

use Rattle.asn1_core.specs.Texts.{Oid}
use Rattle.asn1_core.specs.Reading.{oid_at}
use Rattle.asn1_core.specs.StandLaws.{reads_free}
use Rattle.asn1_core.specs.ElementLaws.{oid-exact}
use Rattle.asn1_core.proofs.read.read_identifier.Goals as goal

pub returns-clause-stands : goal.returns-clause-stands
returns-clause-stands c = reads_free Oid oid_at _ oid-exact _ _ _ c.identifier_in_front.ensures.exact

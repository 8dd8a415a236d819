use Rattle.asn1_core.specs.Texts.{Raw}
use Rattle.asn1_core.specs.Reading.{raw_at}
use Rattle.asn1_core.specs.StandLaws.{reads_free}
use Rattle.asn1_core.specs.ElementLaws.{raw-exact}
use Rattle.asn1_core.proofs.read.read_raw.Goals as goal

pub returns-clause-stands : goal.returns-clause-stands
returns-clause-stands c = reads_free Raw raw_at _ raw-exact _ _ _ c.raw_in_front.ensures.exact

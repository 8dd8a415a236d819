use Rattle.asn1_core.specs.Unicode.{Ia5, ia5_at}
use Rattle.asn1_core.specs.StandLaws.{reads}
use Rattle.asn1_core.proofs.UnicodeLaws.{ia5-exact}
use Rattle.asn1_core.proofs.read.read_ia5.Goals as goal

pub returns-clause-stands : goal.returns-clause-stands
returns-clause-stands c = reads Ia5 ia5_at _ ia5-exact _ _ _ c.ia5_in_front.ensures.exact

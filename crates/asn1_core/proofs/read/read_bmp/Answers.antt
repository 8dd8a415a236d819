use Rattle.asn1_core.specs.Unicode.{Bmp, bmp_at}
use Rattle.asn1_core.specs.StandLaws.{reads}
use Rattle.asn1_core.proofs.UnicodeLaws.{bmp-exact}
use Rattle.asn1_core.proofs.read.read_bmp.Goals as goal

pub returns-clause-stands : goal.returns-clause-stands
returns-clause-stands c = reads Bmp bmp_at _ bmp-exact _ _ _ c.bmp_in_front.ensures.exact

use Rattle.asn1_core.specs.Texts.{Uint}
use Rattle.asn1_core.specs.Reading.{uint_at}
use Rattle.asn1_core.specs.StandLaws.{reads_free}
use Rattle.asn1_core.specs.NumberLaws.{uint-exact}
use Rattle.asn1_core.proofs.read.read_uint.Goals as goal

pub returns-clause-stands : goal.returns-clause-stands
returns-clause-stands c = reads_free (Uint c.args.max) (uint_at c.args.max) _ (uint-exact c.args.max) _ _ _ c.uint_in_front.ensures.exact

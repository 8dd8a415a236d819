use Rattle.asn1_core.specs.Texts.{Inside}
use Rattle.asn1_core.specs.Reading.{inside_at}
use Rattle.asn1_core.specs.StandLaws.{reads_free}
use Rattle.asn1_core.specs.ElementLaws.{inside-exact}
use Rattle.asn1_core.proofs.read.read_inner.Goals as goal

pub returns-clause-stands : goal.returns-clause-stands
returns-clause-stands c = reads_free (Inside c.args.tag.first) (inside_at c.args.tag.first) _ (inside-exact c.args.tag.first c.args.tag.is_tag) _ _ _ c.inner_in_front.ensures.exact

use Rattle.asn1_core.specs.StandLaws.{whole_sole}
use Rattle.pkcs5.specs.Scheme.{SchemeText}
use Rattle.pkcs5.specs.SchemeLaws.{scheme-exact}
use Rattle.pkcs5.proofs.laws.texts_have_one_scheme.Goals as goal
use Rattle.pkcs5.specs.Reading.{scheme_at}

pub returns : goal.returns
returns c b s t short r q = whole_sole SchemeText scheme_at scheme-exact b s t (r, short) (q, short)

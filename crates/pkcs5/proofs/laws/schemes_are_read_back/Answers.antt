use Rattle.asn1_core.specs.ExactLaws.{whole-exact}
use Rattle.pkcs5.specs.Scheme.{SchemeText, scheme_text}
use Rattle.pkcs5.specs.SchemeLaws.{scheme-exact, scheme_canonical}
use Rattle.pkcs5.proofs.laws.schemes_are_read_back.Goals as goal
use Rattle.pkcs5.specs.Reading.{scheme_at}

pub returns : goal.returns
returns c s h short = (whole-exact SchemeText scheme_at scheme-exact).again (scheme_text s) s (scheme_canonical s h) short

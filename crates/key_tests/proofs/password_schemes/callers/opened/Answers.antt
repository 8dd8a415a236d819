use Rattle.asn1_core.specs.StandLaws.{whole_found}
use Rattle.pkcs5.specs.Scheme.{SchemeText}
use Rattle.pkcs5.specs.SchemeLaws.{scheme-exact}
use Rattle.key_tests.proofs.password_schemes.callers.opened.Goals as goal
use Rattle.pkcs5.specs.Reading.{scheme_at}

pub returns : goal.returns
returns c = (c.in-Ok.scheme, (whole_found SchemeText scheme_at scheme-exact c.args.scheme.now c.in-Ok.scheme c.in-Ok.ensures).0, c.in_ok-text.ensures.ok)

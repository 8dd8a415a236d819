use Rattle.spki.specs.SpellingLaws.{read_where}
use Rattle.pkcs5.specs.Scheme.{SchemeText, IsScheme, SpellsScheme}
use Rattle.pkcs5.specs.SchemeLaws.{scheme-exact, scheme_spelled}
use Rattle.pkcs5.proofs.laws.schemes_are_spelled.Goals as goal
use Rattle.pkcs5.specs.Reading.{scheme_at}

pub returns : goal.returns
returns c = λ b v. read_where SchemeText scheme_at scheme-exact b v (IsScheme v) (SpellsScheme b v) (scheme_spelled b v)

use Rattle.spki.specs.SpellingLaws.{read_where}
use Rattle.pkcs5.specs.Pbkdf2Params.{Pbkdf2ParamsText, ArePbkdf2Params, SpellsPbkdf2Params}
use Rattle.pkcs5.specs.Pbkdf2ParamsLaws.{pbkdf2_params-exact, pbkdf2_params_spelled}
use Rattle.pkcs5.proofs.laws.pbkdf2_params_are_spelled.Goals as goal
use Rattle.pkcs5.specs.Reading.{pbkdf2_params_at}

pub returns : goal.returns
returns c = λ b v. read_where Pbkdf2ParamsText pbkdf2_params_at pbkdf2_params-exact b v (ArePbkdf2Params v) (SpellsPbkdf2Params b v) (pbkdf2_params_spelled b v)

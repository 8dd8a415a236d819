use Rattle.spki.specs.SpellingLaws.{read_where}
use Rattle.pkcs5.specs.Parameters.{ParametersText, AreParameters, SpellsParameters}
use Rattle.pkcs5.specs.ParametersLaws.{parameters-exact, parameters_spelled}
use Rattle.pkcs5.proofs.laws.parameters_are_spelled.Goals as goal
use Rattle.pkcs5.specs.Reading.{parameters_at}

pub returns : goal.returns
returns c = λ b v. read_where ParametersText parameters_at parameters-exact b v (AreParameters v) (SpellsParameters b v) (parameters_spelled b v)

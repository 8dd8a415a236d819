use Rattle.pkcs5.specs.OpeningLaws.{opened_is, opened_some}
use Rattle.pkcs5.proofs.opening_laws.opening_is_a_function.Goals as goal

pub returns : goal.returns
returns c = λ par q x m. (opened_is par q x m, opened_some par q x m)

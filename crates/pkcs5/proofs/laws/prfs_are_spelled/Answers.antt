use Rattle.spki.specs.SpellingLaws.{read_alone}
use Rattle.pkcs5.specs.Pbkdf2Prf.{PrfText, SpellsPrf}
use Rattle.pkcs5.specs.PrfLaws.{prf-exact, prf_spelled}
use Rattle.pkcs5.proofs.laws.prfs_are_spelled.Goals as goal
use Rattle.pkcs5.specs.Reading.{prf_at}

pub returns : goal.returns
returns c = λ b v. read_alone PrfText prf_at prf-exact b v (SpellsPrf b v) (prf_spelled b v)

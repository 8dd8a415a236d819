use Rattle.std.proofs.Common.{◌≡◌}
use Rattle.asn1_core.specs.Der.{el}
use Rattle.spki.specs.SpellingLaws.{read_where}
use Rattle.pkcs5.specs.Pbes1.{PbeText, ArePbeParams, pbe_content}
use Rattle.pkcs5.specs.Pbes1Laws.{pbe-exact, pbe_spelled}
use Rattle.pkcs5.proofs.laws.pbes1_algorithms_are_spelled.Goals as goal
use Rattle.pkcs5.specs.Reading.{pbe_at}

pub returns : goal.returns
returns c = λ b v. read_where PbeText pbe_at pbe-exact b v (ArePbeParams v.parameters) (b ≡ el 0x30 (pbe_content v)) (pbe_spelled b v)

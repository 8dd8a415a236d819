use Rattle.spki.specs.SpellingLaws.{read_where}
use Rattle.pkcs5.specs.Kdf.{KdfText, IsKdf, SpellsKdf}
use Rattle.pkcs5.specs.KdfLaws.{kdf-exact, kdf_spelled}
use Rattle.pkcs5.proofs.laws.kdfs_are_spelled.Goals as goal
use Rattle.pkcs5.specs.Reading.{kdf_at}

pub returns : goal.returns
returns c = λ b v. read_where KdfText kdf_at kdf-exact b v (IsKdf v) (SpellsKdf b v) (kdf_spelled b v)

use Rattle.std.proofs.Common.{◌≡◌}
use Rattle.asn1_core.specs.Der.{el}
use Rattle.spki.specs.SpellingLaws.{read_where}
use Rattle.pkcs5.specs.ScryptParams.{ScryptParamsText, AreScryptParams, scrypt_params_content}
use Rattle.pkcs5.specs.ScryptParamsLaws.{scrypt_params-exact, scrypt_params_spelled}
use Rattle.pkcs5.proofs.laws.scrypt_params_are_spelled.Goals as goal
use Rattle.pkcs5.specs.Reading.{scrypt_params_at}

pub returns : goal.returns
returns c = λ b v. read_where ScryptParamsText scrypt_params_at scrypt_params-exact b v (AreScryptParams v) (b ≡ el 0x30 (scrypt_params_content v)) (scrypt_params_spelled b v)

use Rattle.std.proofs.Common.{refl}
use Rattle.pkcs5.proofs.pbes2.pbkdf2_params.invalid.Goals as goal

pub returns : goal.returns
returns c = (_, refl, refl)

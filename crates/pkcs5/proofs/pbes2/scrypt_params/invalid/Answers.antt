use Rattle.std.proofs.Common.{refl}
use Rattle.pkcs5.proofs.pbes2.scrypt_params.invalid.Goals as goal

pub returns : goal.returns
returns c = (_, refl, refl)

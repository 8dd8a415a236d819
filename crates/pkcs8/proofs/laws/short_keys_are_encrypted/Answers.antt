use Rattle.pkcs8.proofs.ShortKeys.{any_writable, short_sealed}
use Rattle.pkcs8.proofs.laws.short_keys_are_encrypted.Goals as goal

pub returns : goal.returns
returns c = λ par q e lawful fits des short r. short_sealed _ par q _ e (any_writable c.args.key.now.algorithm.parameters, tt) lawful fits des short r

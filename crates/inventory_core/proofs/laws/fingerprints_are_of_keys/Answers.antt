use Rattle.std.proofs.Common.{ap, sym}
use Rattle.sha2.specs.Sha256.{sha256}
use Rattle.inventory_core.proofs.laws.fingerprints_are_of_keys.Goals as goal

pub returns : goal.returns
returns c = λ octets v h. ap sha256 (sym ((c.public_keys_have_one_text.ensures octets v.key).0 h).2)

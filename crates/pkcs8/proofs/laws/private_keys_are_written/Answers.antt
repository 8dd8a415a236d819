use Rattle.der_core.specs.BitString.{seen_bits}
use Rattle.spki.specs.Seen.{borrowed_any}
use Rattle.pkcs8.proofs.Spellings.{key_written}
use Rattle.pkcs8.proofs.laws.private_keys_are_written.Goals as goal

pub returns : goal.returns
returns c =
    let k = c.args.key.now in
    key_written borrowed_any (λ s. seen_bits s.unused_bits s.octets.now) k.algorithm.oid k.algorithm.parameters k.private_key.octets.now k.public_key

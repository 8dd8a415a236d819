use Rattle.asn1_core.specs.declared.error.Error.TheVariants as below
use Rattle.pkcs8.specs.declared.error.Error.TheVariants.{Asn1}
use Rattle.der_core.specs.BitString.{seen_bits}
use Rattle.spki.specs.KeyLaws.{key_found, key_refused}
use Rattle.spki.specs.Seen.{borrowed_any}
use Rattle.pkcs8.specs.Seen.{IsPrivateKey, seen_private_key}
use Rattle.pkcs8.proofs.decode_private_key.DecodePrivateKey.from_pkcs8_der.Goals as goal

pub returns-in-Ok-clause-ok : goal.returns-in-Ok-clause-ok
returns-in-Ok-clause-ok g c =
    key_found (Asn1 below.Malformed) IsPrivateKey g.Self.DecodePrivateKey.holds g.Self.DecodePrivateKey.refuses c.args.bytes.now (seen_private_key borrowed_any (λ s. s.octets.now) (λ s. seen_bits s.unused_bits s.octets.now) c.in-Ok.info) c.in-Ok.ensures c.from_pkcs8_info.result c.from_pkcs8_info.ensures.ok

pub returns-in-Ok-clause-err : goal.returns-in-Ok-clause-err
returns-in-Ok-clause-err g c =
    key_refused (Asn1 below.Malformed) IsPrivateKey g.Self.DecodePrivateKey.holds g.Self.DecodePrivateKey.refuses c.args.bytes.now (seen_private_key borrowed_any (λ s. s.octets.now) (λ s. seen_bits s.unused_bits s.octets.now) c.in-Ok.info) c.in-Ok.ensures c.from_pkcs8_info.result c.from_pkcs8_info.ensures.err

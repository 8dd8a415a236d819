use Rattle.asn1_core.specs.declared.error.Error.TheVariants as below
use Rattle.spki.specs.declared.error.Error.TheVariants.{Asn1}
use Rattle.der_core.specs.BitString.{seen_bits}
use Rattle.spki.specs.KeyLaws.{key_found, key_refused}
use Rattle.spki.specs.Seen.{borrowed_any, seen_public_key, IsPublicKey}
use Rattle.spki.proofs.decode_public_key.DecodePublicKey.from_public_key_der.Goals as goal

pub returns-in-Ok-clause-ok : goal.returns-in-Ok-clause-ok
returns-in-Ok-clause-ok g c =
    key_found (Asn1 below.Malformed) IsPublicKey g.Self.DecodePublicKey.holds g.Self.DecodePublicKey.refuses c.args.bytes.now (seen_public_key borrowed_any (λ s. seen_bits s.unused_bits s.octets.now) c.in-Ok.spki) c.in-Ok.ensures c.from_spki.result c.from_spki.ensures.ok

pub returns-in-Ok-clause-err : goal.returns-in-Ok-clause-err
returns-in-Ok-clause-err g c =
    key_refused (Asn1 below.Malformed) IsPublicKey g.Self.DecodePublicKey.holds g.Self.DecodePublicKey.refuses c.args.bytes.now (seen_public_key borrowed_any (λ s. seen_bits s.unused_bits s.octets.now) c.in-Ok.spki) c.in-Ok.ensures c.from_spki.result c.from_spki.ensures.err

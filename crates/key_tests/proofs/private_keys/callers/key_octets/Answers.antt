use Rattle.std.proofs.Common.{sym}
use Rattle.der_core.specs.BitString.{seen_bits}
use Rattle.spki.specs.Seen.{borrowed_any}
use Rattle.pkcs8.specs.Seen.{seen_private_key}
use Rattle.key_tests.proofs.private_keys.callers.key_octets.Goals as goal

pub returns : goal.returns
returns c = (
  seen_private_key borrowed_any (λ s. s.octets.now) (λ s. seen_bits s.unused_bits s.octets.now) c.in_ok-key.key,
  c.in_ok-key.ensures,
  c.in_ok-assert_algorithm_oid.ensures.1,
  sym c.as_bytes.ensures,
)

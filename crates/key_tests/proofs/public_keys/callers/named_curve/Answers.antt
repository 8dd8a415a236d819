use Rattle.der_core.specs.BitString.{seen_bits}
use Rattle.spki.specs.AnyLaws.{public_key_found}
use Rattle.spki.specs.Seen.{borrowed_any, seen_public_key}
use Rattle.key_tests.proofs.public_keys.callers.named_curve.Goals as goal

pub returns : goal.returns
returns c = (
  seen_public_key borrowed_any (λ s. seen_bits s.unused_bits s.octets.now) c.in_ok-key.key,
  public_key_found c.args.text.now _ c.in_ok-key.ensures,
  c.in_ok-assert_algorithm_oid.ensures.1,
  c.in_ok-curve.ensures,
)

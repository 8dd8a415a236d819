use Rattle.std.proofs.Common.{◌∙◌, ap}
use Rattle.sha2.specs.Sha256.{sha256}
use Rattle.der_core.specs.BitString.{seen_bits}
use Rattle.spki.specs.Seen.{owned_any, seen_public_key}
use Rattle.known_answers.proofs.answer.fingerprint_of.Goals as goal

pub returns : goal.returns
returns c =
    record {
      key = seen_public_key owned_any (λ s. seen_bits s.unused_bits s.octets) c.in_ok-key.key;
      is = c.in_ok-key.ensures;
      digest = c.in_ok-from_slice.ensures ∙ (c.in_ok-fingerprint_bytes.ensures.ok ∙ ap sha256 c.public_keys_are_written.ensures);
    }

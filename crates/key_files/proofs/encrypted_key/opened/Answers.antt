use Rattle.std.proofs.Common.{◌∙◌, inr, refl}
use Rattle.der_core.specs.BitString.{seen_bits}
use Rattle.pkcs8.specs.Seen.{seen_private_key}
use Rattle.spki.specs.Seen.{borrowed_any}
use Rattle.key_files.proofs.Refusals.{opened_key, opened_none}
use Rattle.key_files.proofs.encrypted_key.opened.Goals as goal

pub returns-in-Ok-try_from-clause-ok : goal.returns-in-Ok-try_from-clause-ok
returns-in-Ok-try_from-clause-ok c =
    let d = c.args.document.now in
    opened_key d.encryption_algorithm c.as_bytes.result.now c.args.password.now d.encrypted_data.octets.now c.in-Ok.text.document.octets c.as_bytes-in-Ok.result.now c.in_ok-from_slice-in-Ok-try_from.field-0
    (seen_private_key borrowed_any (λ s. s.octets.now) (λ s. seen_bits s.unused_bits s.octets.now) c.in-Ok-try_from.field-0)
    c.as_bytes.ensures.value c.in-Ok.ensures.ok c.as_bytes-in-Ok.ensures.value c.in-Ok-try_from.ensures (c.in_ok-from_slice-in-Ok-try_from.ensures ∙ c.as_bytes-in-Ok-try_from.ensures.value)

pub returns-in-Ok-clause-err : goal.returns-in-Ok-clause-err
returns-in-Ok-clause-err c =
    let d = c.args.document.now in
    inr (
      refl,
      opened_none d.encryption_algorithm c.as_bytes.result.now c.args.password.now d.encrypted_data.octets.now c.in-Ok.text.document.octets c.as_bytes-in-Ok.result.now
          c.as_bytes.ensures.value c.in-Ok.ensures.ok c.as_bytes-in-Ok.ensures.value c.in-Err-try_from.ensures.1,
    )

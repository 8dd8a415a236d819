use Rattle.std.proofs.Common.{◌≡◌, ◌∙◌, refl, sym, subst}
use Rattle.asn1_core.specs.Oid.{oid_octets}
use Rattle.der_core.specs.BitString.{seen_bits}
use Rattle.pkcs8.specs.Seen.{seen_private_key}
use Rattle.pkcs8.specs.Spelling.{private_key_text}
use Rattle.spki.specs.Seen.{borrowed_any}
use Rattle.key_files.specs.Keys.{RefusesToWrap, wrapped_text}
use Rattle.key_files.specs.declared.key_refusal.KeyRefusal.{KeyRefusal}
use Rattle.key_files.proofs.Refusals.{any_writable, wrapping_refused}
use Rattle.key_files.proofs.wrapping.wrapped.Goals as goal

pub returns-in-Ok-to_der-clause-ok : goal.returns-in-Ok-to_der-clause-ok
returns-in-Ok-to_der-clause-ok c =
    let e : private_key_text (seen_private_key borrowed_any (λ s. s.octets.now) (λ s. seen_bits s.unused_bits s.octets.now) c.new-key.result) ≡ wrapped_text c.args.oid (borrowed_any c.args.parameters) c.args.octets.now
    = rw (c.new-key.ensures, c.in-Ok.ensures) refl in
    record { identifier = c.args.oid; named = refl; is = c.in-Ok-to_der.ensures.ok ∙ c.private_keys_are_written.ensures ∙ e }

pub returns-in-Err-clause-err : goal.returns-in-Err-clause-err
returns-in-Err-clause-err c =
    let e : private_key_text (seen_private_key borrowed_any (λ s. s.octets.now) (λ s. seen_bits s.unused_bits s.octets.now) c.new-key.result) ≡ wrapped_text c.args.oid (borrowed_any c.args.parameters) c.args.octets.now
    = rw (c.new-key.ensures, c.in-Ok.ensures) refl in
    subst (λ (r : KeyRefusal). RefusesToWrap (oid_octets c.args.oid) (borrowed_any c.args.parameters) c.args.octets.now r) (sym c.unwritten.ensures)
    (wrapping_refused c.args.oid (borrowed_any c.args.parameters) c.args.octets.now _ _ c.in-Err.error c.in-Err.ensures.err (any_writable c.new-key.result.algorithm.parameters, tt) (c.private_keys_are_written.ensures ∙ e))

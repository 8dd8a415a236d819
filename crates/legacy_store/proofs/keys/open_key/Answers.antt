use Rattle.std.proofs.Common.{◌≡◌, ◌∙◌, ap, arith, length, subst, sym}
use Rattle.std.specs.Prelude.{Some}
use Rattle.std.proofs.lemmas.Result.{err_from_is_err_and}
use Rattle.transfer.specs.Opening.{IsKeyText, NoKeyText, RefusedAfter}
use Rattle.legacy_store.specs.Algorithm.{legacy_unlock}
use Rattle.legacy_store.specs.Forms.{seen_forms}
use Rattle.legacy_store.specs.Opening.{LegacyKeyFault, LegacyLockFault}
use Rattle.legacy_store.proofs.Locks.{key_bad, key_before}
use Rattle.transfer.proofs.Faults.{refused_after_as}
use Rattle.legacy_store.proofs.keys.open_key.Goals as goal

pub open_text-requires-clause-ciphertext : goal.open_text-requires-clause-ciphertext
open_text-requires-clause-ciphertext g c = omega (arith, c.requires.text, ap length c.as_slice-octets.ensures)

pub returns-in_err-text-clause-refused : goal.returns-in_err-text-clause-refused
returns-in_err-text-clause-refused g c =
    let p = err_from_is_err_and c.from_residual.result c.from_residual.ensures.1 in
    let f = seen_forms c.args.secret.now in
    let b = c.args.budget.now in
    let k = c.args.key.now in
    rw (p.1, p.2) (refused_after_as (LegacyLockFault f b.limit b.spent k.encryption_algorithm k.encrypted_data (λ _ _ _. ⊥)) (LegacyKeyFault f b.limit b.spent k) _ _
    (key_before f b.limit b.spent k) c.in_err-text.field-0.0
    (subst (λ t. RefusedAfter (LegacyLockFault f b.limit b.spent k.encryption_algorithm t (λ _ _ _. ⊥)) c.args.steps.now c.open_text.new.steps c.in_err-text.field-0.0) c.as_slice-octets.ensures c.in_err-text.ensures.refused))

pub returns-in-Ok-clause-opened : goal.returns-in-Ok-clause-opened
returns-in-Ok-clause-opened g c =
    let f = seen_forms c.args.secret.now in
    let k = c.args.key.now in
    let o = c.in_ok-text.ensures.opened in
    ((ap (legacy_unlock f k.encryption_algorithm) (sym c.as_slice-octets.ensures) ∙ o.0, subst IsKeyText c.as_slice-plain.ensures c.in-Ok.ensures.ok), o.1, o.2)

pub returns-in-Err-clause-refused : goal.returns-in-Err-clause-refused
returns-in-Err-clause-refused g c =
    let f = seen_forms c.args.secret.now in
    let b = c.args.budget.now in
    let k = c.args.key.now in
    let o = c.in_ok-text.ensures.opened in
    let e = c.in-Err.ensures.err in
    let opens : legacy_unlock f k.encryption_algorithm k.encrypted_data ≡ Some c.in_ok-text.text = ap (legacy_unlock f k.encryption_algorithm) (sym c.as_slice-octets.ensures) ∙ o.0 in
    subst (λ e. RefusedAfter (LegacyKeyFault f b.limit b.spent k) c.args.steps.now c.open_text.new.steps e) (sym e.0)
    (_, key_bad f b.limit b.spent k c.in_ok-text.text opens (omega (arith, o.1.0, o.1.1, c.open_text.new.budget.within)) (subst NoKeyText c.as_slice-plain.ensures e.1), o.2)

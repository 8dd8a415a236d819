use Rattle.std.proofs.Common.{◌≡◌, ◌∙◌, ap, arith, length, subst, sym}
use Rattle.std.specs.Prelude.{Some}
use Rattle.std.proofs.lemmas.Result.{err_from_is_err_and}
use Rattle.p12.specs.BagView.{ListsBags}
use Rattle.p12.specs.SafeBag.{NoBags}
use Rattle.p12.specs.declared.content_info.ContentInfo.TheVariants as content
use Rattle.p12.proofs.DefinitionLaws.{listed}
use Rattle.transfer.specs.Opening.{RefusedAfter}
use Rattle.legacy_store.specs.Algorithm.{legacy_unlock}
use Rattle.legacy_store.specs.Forms.{seen_forms}
use Rattle.legacy_store.specs.Opening.{LegacyContentCause, LegacyLockFault}
use Rattle.legacy_store.proofs.Locks.{content_bad, content_before}
use Rattle.transfer.proofs.Faults.{refused_after_as}
use Rattle.legacy_store.proofs.contents.open_sealed.Goals as goal

pub open_text-requires-clause-ciphertext : goal.open_text-requires-clause-ciphertext
open_text-requires-clause-ciphertext g c = omega (arith, c.requires.fits.0, ap length c.as_slice-octets.ensures)

pub returns-in_err-text-clause-refused : goal.returns-in_err-text-clause-refused
returns-in_err-text-clause-refused g c =
    let p = err_from_is_err_and c.from_residual.result c.from_residual.ensures.1 in
    let f = seen_forms c.args.secret.now in
    let b = c.args.budget.now in
    let d = c.args.sealed.now in
    let a = d.encrypted_content_info.content_encryption_algorithm in
    let text = d.encrypted_content_info.encrypted_content in
    rw (p.1, p.2) (refused_after_as (LegacyLockFault f b.limit b.spent a text (λ _ _ _. ⊥)) (LegacyContentCause f b.limit b.spent (content.EncryptedData d)) _ _
    (content_before f b.limit b.spent d) c.in_err-text.field-0.0
    (subst (λ t. RefusedAfter (LegacyLockFault f b.limit b.spent a t (λ _ _ _. ⊥)) c.args.steps.now c.open_text.new.steps c.in_err-text.field-0.0) c.as_slice-octets.ensures c.in_err-text.ensures.refused))

pub returns-in-Ok-clause-lists : goal.returns-in-Ok-clause-lists
returns-in-Ok-clause-lists g c = subst ListsBags c.as_slice-plain.ensures c.in-Ok.ensures.ok

pub returns-in-Ok-clause-opened : goal.returns-in-Ok-clause-opened
returns-in-Ok-clause-opened g c =
    let f = seen_forms c.args.secret.now in
    let d = c.args.sealed.now in
    let a = d.encrypted_content_info.content_encryption_algorithm in
    let o = c.in_ok-text.ensures.opened in
    let text = c.in_ok-text.text in
    let opens : legacy_unlock f a d.encrypted_content_info.encrypted_content ≡ Some text = ap (legacy_unlock f a) (sym c.as_slice-octets.ensures) ∙ o.0 in
    ((text, opens, listed text (subst ListsBags c.as_slice-plain.ensures c.in-Ok.ensures.ok)), o.1, o.2)

pub returns-in-Err-clause-refused : goal.returns-in-Err-clause-refused
returns-in-Err-clause-refused g c =
    let f = seen_forms c.args.secret.now in
    let b = c.args.budget.now in
    let d = c.args.sealed.now in
    let a = d.encrypted_content_info.content_encryption_algorithm in
    let o = c.in_ok-text.ensures.opened in
    let e = c.in-Err.ensures.err in
    let opens : legacy_unlock f a d.encrypted_content_info.encrypted_content ≡ Some c.in_ok-text.text = ap (legacy_unlock f a) (sym c.as_slice-octets.ensures) ∙ o.0 in
    subst (λ e. RefusedAfter (LegacyContentCause f b.limit b.spent (content.EncryptedData d)) c.args.steps.now c.open_text.new.steps e) (sym e.0)
    (_, content_bad f b.limit b.spent d c.in_ok-text.text opens (omega (arith, o.1.0, o.1.1, c.open_text.new.budget.within)) (subst NoBags c.as_slice-plain.ensures e.1), o.2)

use Rattle.std.proofs.Common.{◌≡◌, ◌+◌, ℕ, ap, arith, subst, sym}
use Rattle.std.specs.Prelude.{All}
use Rattle.std.specs.List.{sum_by}
use Rattle.std.proofs.lemmas.Result.{err_from_is_err_and}
use Rattle.p12.specs.ContentInfo.{SealFits}
use Rattle.legacy_store.specs.Texts.{NoLegacySafe}
use Rattle.transfer.specs.declared.store.error.TransferError.{TransferError}
use Rattle.transfer.specs.OpenedSafe.{BagsAndKeys}
use Rattle.transfer.specs.Opening.{RefusedAfter, all_shrouded, opened, refused}
use Rattle.transfer.specs.Parts.{AreOpen, IsFirstFault}
use Rattle.legacy_store.specs.Forms.{seen_forms}
use Rattle.legacy_store.specs.Opening.{LegacyTextTable, legacy_contents, legacy_key_share, legacy_keys, legacy_share}
use Rattle.legacy_store.proofs.ContentTexts.{keys_are_texts}
use Rattle.legacy_store.proofs.Parts.{malformed_after}
use Rattle.legacy_store.proofs.Results.{if_ok}
use Rattle.legacy_store.proofs.Rows.{contents_refused, safe_seal, held_fit, keys_opened, keys_refused, no_contents}
use Rattle.legacy_store.proofs.open.open_listed.Goals as goal

pub open_contents-requires-clause-fit : goal.open_contents-requires-clause-fit
open_contents-requires-clause-fit g c =
    subst (All SealFits) (sym c.as_slice-parts.ensures) (safe_seal c.args.text.now c.in_ok-listed.listed c.in_ok-listed.ensures.ok)

pub open_keys-requires-clause-fit : goal.open_keys-requires-clause-fit
open_keys-requires-clause-fit g c =
    held_fit (seen_forms c.args.secret.now) c.as_slice-parts.result.now c.in_ok-contents.contents c.in_ok-contents.ensures.opened.0.each

pub returns-in_err-listed-clause-refused : goal.returns-in_err-listed-clause-refused
returns-in_err-listed-clause-refused g c =
    let p = err_from_is_err_and c.from_residual.result c.from_residual.ensures.1 in
    let f = seen_forms c.args.secret.now in
    let b = c.args.allowed in
    let F = λ (e : TransferError) (n : ℕ). LegacyTextTable f b.limit b.spent c.args.text.now (refused e) (b.spent + n) in
    rw (p.1, p.2) (malformed_after F (NoLegacySafe c.args.text.now) c.args.steps.now c.args.steps.now 0 (λ none. no_contents f b.limit b.spent c.args.text.now none) (omega arith) c.in_err-listed.field-0.0 c.in_err-listed.ensures.err)

pub returns-in_err-contents-clause-refused : goal.returns-in_err-contents-clause-refused
returns-in_err-contents-clause-refused g c =
    let p = err_from_is_err_and c.from_residual-in_err-contents.result c.from_residual-in_err-contents.ensures.1 in
    let f = seen_forms c.args.secret.now in
    let b = c.args.allowed in
    rw (p.1, p.2) (contents_refused f b.limit b.spent c.args.text.now c.in_ok-listed.listed c.in_ok-listed.ensures.ok c.args.steps.now c.open_contents.new.steps c.in_err-contents.field-0.0
    (subst (λ cs. RefusedAfter (IsFirstFault (legacy_contents f b.limit) b.limit b.spent cs) c.args.steps.now c.open_contents.new.steps c.in_err-contents.field-0.0) c.as_slice-parts.ensures c.in_err-contents.ensures.refused))

pub returns-in_err-keys-clause-refused : goal.returns-in_err-keys-clause-refused
returns-in_err-keys-clause-refused g c =
    let p = err_from_is_err_and c.from_residual-in_err-keys.result c.from_residual-in_err-keys.ensures.1 in
    let f = seen_forms c.args.secret.now in
    let b = c.args.allowed in
    let cs = c.in_ok-listed.listed in
    let gss = c.in_ok-contents.contents in
    let o = c.in_ok-contents.ensures.opened in
    let now = c.open_contents.new.budget.spent in
    let a = subst (λ cs. AreOpen (legacy_contents f b.limit) b.limit b.spent cs gss) c.as_slice-parts.ensures o.0 in
    let shares : sum_by legacy_share c.as_slice-parts.result.now ≡ sum_by legacy_share cs = ap (sum_by legacy_share) c.as_slice-parts.ensures in
    let at_limit = subst (λ k. RefusedAfter (IsFirstFault (legacy_keys f k) k now (all_shrouded gss)) c.open_contents.new.steps c.open_keys.new.steps c.in_err-keys.field-0.0) o.1.0 c.in_err-keys.ensures.refused in
    rw (p.1, p.2) (keys_refused f b.limit b.spent c.args.text.now cs c.in_ok-listed.ensures.ok gss a now c.args.steps.now c.open_contents.new.steps c.open_keys.new.steps c.in_err-keys.field-0.0
    (omega (arith, o.1.1, shares)) (omega (arith, o.2, shares))
    at_limit)

pub returns-clause-opened : goal.returns-clause-opened
returns-clause-opened g c =
    let f = seen_forms c.args.secret.now in
    let b = c.args.allowed in
    let cs = c.in_ok-listed.listed in
    let gss = c.in_ok-contents.contents in
    let ks = c.in_ok-keys.keys in
    let o = c.in_ok-contents.ensures.opened in
    let k = c.in_ok-keys.ensures.opened in
    let now = c.open_contents.new.budget.spent in
    let a = subst (λ cs. AreOpen (legacy_contents f b.limit) b.limit b.spent cs gss) c.as_slice-parts.ensures o.0 in
    let shares : sum_by legacy_share c.as_slice-parts.result.now ≡ sum_by legacy_share cs = ap (sum_by legacy_share) c.as_slice-parts.ensures in
    let open_keys = subst (λ k. AreOpen (legacy_keys f k) k now (all_shrouded gss) ks) o.1.0 k.0 in
    let n = sum_by legacy_share cs + sum_by legacy_key_share (all_shrouded gss) in
    let table = keys_opened f b.limit b.spent c.args.text.now cs c.in_ok-listed.ensures.ok gss a now ks (omega (arith, o.1.1, shares)) open_keys in
    let steps : c.open_keys.new.steps ≡ c.args.steps.now + n = omega (arith, o.2, k.1, shares) in
    if_ok (λ (r : BagsAndKeys). (r.contents ≡ gss) × (r.keys ≡ ks))
    (λ (r : BagsAndKeys). (n : ℕ) × LegacyTextTable f b.limit b.spent c.args.text.now (opened r.contents r.keys) (b.spent + n) × (c.open_keys.new.steps ≡ c.args.steps.now + n)) c.kept.result
    (λ r h. (n, rw (h.0, h.1) table, steps)) c.kept.ensures.ok

pub kept-requires : goal.kept-requires
kept-requires g c = keys_are_texts (seen_forms c.args.secret.now) (all_shrouded c.in_ok-contents.contents) c.in_ok-keys.keys c.in_ok-keys.ensures.opened.0.each

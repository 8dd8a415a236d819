use Rattle.std.proofs.Common.{◌∷◌, [], arith}
use Rattle.std.proofs.lemmas.Result.{err_from_is_err_and}
use Rattle.std.proofs.lemmas.List.Sums.{sum_by-append}
use Rattle.legacy_store.specs.Forms.{seen_forms}
use Rattle.legacy_store.specs.Opening.{legacy_key_share, legacy_keys}
use Rattle.legacy_store.proofs.Parts.{one_open, one_refused}
use Rattle.legacy_store.proofs.keys.add_key.Goals as goal

pub returns-in_err-text-clause-refused : goal.returns-in_err-text-clause-refused
returns-in_err-text-clause-refused g c =
    let p = err_from_is_err_and c.from_residual.result c.from_residual.ensures.1 in
    let b = c.args.budget.now in
    rw (p.1, p.2) (one_refused (legacy_keys (seen_forms c.args.secret.now) b.limit) b.limit b.spent c.args.key.now _ _ c.in_err-text.field-0.0 b.within c.in_err-text.ensures.refused)

pub returns-clause-opened : goal.returns-clause-opened
returns-clause-opened g c =
    let b = c.args.budget.now in
    let k = c.args.key.now in
    let o = c.in_ok-text.ensures.opened in
    let share = sum_by-append legacy_key_share (k ∷ []) [] in (
      record {
        made = c.in_ok-text.text ∷ [];
        grows = c.in_ok-push.ensures.ok;
        opened = one_open (legacy_keys (seen_forms c.args.secret.now) b.limit) b.limit b.spent k c.in_ok-text.text o.0 (omega (arith, o.1.0, o.1.1, c.open_key.new.budget.within));
      },
      (o.1.0, omega (arith, o.1.1, share)),
      omega (arith, o.2, share),
    )

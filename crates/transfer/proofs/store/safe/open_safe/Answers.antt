use Rattle.std.proofs.Common.{◌+◌, ap₂, arith, sym}
use Rattle.std.specs.List.{sum_by}
use Rattle.std.proofs.lemmas.Result.{err_from_is_err_and}
use Rattle.transfer.specs.OpenedSafe.{BagsAndKeys, contents_at}
use Rattle.transfer.specs.Opening.{HasVerdict, all_shrouded, key_share, refused}
use Rattle.transfer.proofs.Rows.{opened_so, refused_so}
use Rattle.transfer.proofs.Settling.{decided_err, decided_ok, refused_undrawn}
use Rattle.transfer.proofs.Valid.{verdict_open}
use Rattle.transfer.proofs.store.safe.open_safe.Goals as goal

pub returns-in_err-opened-clause-exact : goal.returns-in_err-opened-clause-exact
returns-in_err-opened-clause-exact g c =
    let p = err_from_is_err_and c.from_residual.result c.from_residual.ensures.1 in
    rw (p.1, p.2) (decided_err BagsAndKeys c.args.store.now c.args.password.now c.args.limit c.in_err-opened.field-0.0
    (refused_undrawn (λ e n. HasVerdict c.args.store.now c.args.password.now c.args.limit (refused e) n) _ _ _ c.in_err-opened.field-0.0 c.in_err-opened.ensures.refused))

pub returns-in_err-keys-clause-refused : goal.returns-in_err-keys-clause-refused
returns-in_err-keys-clause-refused g c =
    let p = err_from_is_err_and c.from_residual-in_err-keys.result c.from_residual-in_err-keys.ensures.1 in
    let o = c.in_ok-opened.ensures.opened in
    let s = c.in_ok-opened.opened in
    rw (p.1, p.2) (refused_so (HasVerdict c.args.store.now c.args.password.now c.args.limit) c.args.password.now c.args.limit s.budget.limit s.text s.places s.budget.spent o.0 o.1
    c.args.steps.now c.open_parts.new.steps c.open_keys.new.steps c.in_err-keys.field-0.0 o.2 (rw (sym c.as_slice-whole.ensures, sym c.as_slice.ensures) c.in_err-keys.ensures.refused))

pub returns-in_err-keys-clause-exact : goal.returns-in_err-keys-clause-exact
returns-in_err-keys-clause-exact g c =
    let p = err_from_is_err_and c.from_residual-in_err-keys.result c.from_residual-in_err-keys.ensures.1 in
    let o = c.in_ok-opened.ensures.opened in
    let s = c.in_ok-opened.opened in
    let T = HasVerdict c.args.store.now c.args.password.now c.args.limit in
    rw (p.1, p.2) (decided_err BagsAndKeys c.args.store.now c.args.password.now c.args.limit c.in_err-keys.field-0.0
    (refused_undrawn (λ e n. T (refused e) n) _ c.args.steps.now c.open_keys.new.steps c.in_err-keys.field-0.0
    (refused_so T c.args.password.now c.args.limit s.budget.limit s.text s.places s.budget.spent o.0 o.1
    c.args.steps.now c.open_parts.new.steps c.open_keys.new.steps c.in_err-keys.field-0.0 o.2 (rw (sym c.as_slice-whole.ensures, sym c.as_slice.ensures) c.in_err-keys.ensures.refused))))

pub returns-clause-opened : goal.returns-clause-opened
returns-clause-opened g c =
    let o = c.in_ok-opened.ensures.opened in
    let s = c.in_ok-opened.opened in
    let a = c.in_ok-keys.ensures.opened in
    let gss = contents_at s.text s.places in
    let n = s.budget.spent + sum_by key_share (all_shrouded gss) in
    let v = opened_so (HasVerdict c.args.store.now c.args.password.now c.args.limit) c.args.password.now c.args.limit s.budget.limit s.text s.places s.budget.spent o.0 o.1 c.in_ok-keys.keys
    (rw (sym c.as_slice-whole.ensures, sym c.as_slice.ensures) a.0) in
    let w = verdict_open c.args.store.now c.args.password.now c.args.limit gss c.in_ok-keys.keys n v in
    (n, w.0, w.1, omega (arith, o.2, a.1, ap₂ (λ text places. sum_by key_share (all_shrouded (contents_at text places))) c.as_slice-whole.ensures c.as_slice.ensures))

pub returns-clause-exact : goal.returns-clause-exact
returns-clause-exact g c =
    let o = c.in_ok-opened.ensures.opened in
    let s = c.in_ok-opened.opened in
    decided_ok BagsAndKeys c.args.store.now c.args.password.now c.args.limit _ (contents_at s.text s.places) c.in_ok-keys.keys _
    (opened_so (HasVerdict c.args.store.now c.args.password.now c.args.limit) c.args.password.now c.args.limit s.budget.limit s.text s.places s.budget.spent o.0 o.1 c.in_ok-keys.keys
    (rw (sym c.as_slice-whole.ensures, sym c.as_slice.ensures) c.in_ok-keys.ensures.opened.0))

use Rattle.std.proofs.lemmas.Result.{err_from_is_err_and}
use Rattle.legacy_store.proofs.Closed.{decided_opened, decided_refused}
use Rattle.legacy_store.proofs.open.open_legacy.Goals as goal

pub returns-in_err-safe-clause-exact : goal.returns-in_err-safe-clause-exact
returns-in_err-safe-clause-exact g c =
    let p = err_from_is_err_and c.from_residual.result c.from_residual.ensures.1 in
    rw (p.1, p.2) (decided_refused c.args.rule c.args.store.now c.args.password.now c.args.limit c.args.steps.now c.open_legacy_safe.new.steps c.in_err-safe.field-0.0 c.in_err-safe.ensures.refused)

pub returns-clause-exact : goal.returns-clause-exact
returns-clause-exact g c =
    let o = c.in_ok-safe.ensures.opened in
    let s = c.in_ok-safe.safe in
    decided_opened c.args.rule c.args.store.now c.args.password.now c.args.limit _ s.contents s.keys o.0 o.1 o.2

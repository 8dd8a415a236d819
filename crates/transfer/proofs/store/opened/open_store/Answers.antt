use Rattle.std.proofs.lemmas.Result.{err_from_is_err_and}
use Rattle.transfer.specs.OpenedSafe.{BagsAndKeys}
use Rattle.transfer.specs.declared.store.opened.Opened.{Opened}
use Rattle.transfer.proofs.Settling.{decided_as, decided_ok}
use Rattle.transfer.proofs.Valid.{open_comes}
use Rattle.transfer.proofs.store.opened.open_store.Goals as goal

pub returns-in_err-safe-clause-exact : goal.returns-in_err-safe-clause-exact
returns-in_err-safe-clause-exact g c =
    let p = err_from_is_err_and c.from_residual.result c.from_residual.ensures.1 in
    rw (p.1, p.2) (decided_as BagsAndKeys Opened c.args.store.now c.args.password.now c.args.limit c.in_err-safe.field-0.0 c.in_err-safe.ensures.exact)

pub returns-clause-exact : goal.returns-clause-exact
returns-clause-exact g c =
    let o = c.in_ok-safe.ensures.opened in
    let s = c.in_ok-safe.safe in
    decided_ok Opened c.args.store.now c.args.password.now c.args.limit _ s.contents s.keys o.0 (open_comes c.args.store.now c.args.password.now c.args.limit s.contents s.keys o.0 o.1 o.2)

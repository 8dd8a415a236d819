use Rattle.inventory_core.proofs.Decisions.{decided_err, decided_ok}
use Rattle.inventory_core.proofs.listing.inventory_within.Goals as goal

pub returns-in-Err-clause-exact : goal.returns-in-Err-clause-exact
returns-in-Err-clause-exact g c = decided_err c.args.store.now c.args.password.now c.args.limit c.in-Err.e c.in-Err.ensures.exact

pub returns-in-Ok-table_within-clause-exact : goal.returns-in-Ok-table_within-clause-exact
returns-in-Ok-table_within-clause-exact g c = decided_ok c.args.store.now c.args.password.now c.args.limit c.in-Ok.opened c.finish.result c.in-Ok.ensures.exact

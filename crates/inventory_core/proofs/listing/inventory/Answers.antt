use Rattle.inventory_core.proofs.Decisions.{decided_err, decided_ok}
use Rattle.inventory_core.proofs.listing.inventory.Goals as goal

pub returns-in-Err-clause-exact : goal.returns-in-Err-clause-exact
returns-in-Err-clause-exact g c = decided_err c.args.store.now c.args.password.now c.args.limit c.in-Err.e c.in-Err.ensures.exact

pub returns-in-Ok-joined_text-clause-exact : goal.returns-in-Ok-joined_text-clause-exact
returns-in-Ok-joined_text-clause-exact g c = decided_ok c.args.store.now c.args.password.now c.args.limit c.in-Ok.lines c.in-Ok-joined_text.text c.in-Ok.ensures.exact

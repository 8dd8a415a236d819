use Rattle.pkcs12_c.proofs.Tables.{decided_err, decided_ok}
use Rattle.pkcs12_c.proofs.listed.listed_from.Goals as goal

pub returns-in-Err-clause-exact : goal.returns-in-Err-clause-exact
returns-in-Err-clause-exact g c = decided_err c.args.store.now c.args.password.now.text.now c.args.limit c.in-Err.refusal c.in-Err.ensures.exact

pub returns-in-Ok-opened_inventory-clause-exact : goal.returns-in-Ok-opened_inventory-clause-exact
returns-in-Ok-opened_inventory-clause-exact g c = decided_ok c.args.store.now c.args.password.now.text.now c.args.limit c.in-Ok.opened c.in-Ok-opened_inventory.table c.in-Ok.ensures.exact

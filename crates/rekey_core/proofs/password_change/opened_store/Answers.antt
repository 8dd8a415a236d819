use Rattle.p12.specs.MacView.{seen_mac}
use Rattle.transfer.specs.declared.store.opened.Opened.{Opened}
use Rattle.rekey_core.specs.declared.password_change.OpenStore.{OpenStore}
use Rattle.rekey_core.proofs.Settling.{decided_memory, decided_opened, decided_refused, opened_of}
use Rattle.rekey_core.proofs.password_change.opened_store.Goals as goal

pub returns-in-Err-clause-exact : goal.returns-in-Err-clause-exact
returns-in-Err-clause-exact g c = decided_refused Opened OpenStore c.args.store.now c.args.old.now c.args.limit c.in-Err.e c.in-Err.ensures.exact

pub returns-in_default-clause-exact : goal.returns-in_default-clause-exact
returns-in_default-clause-exact g c = decided_memory OpenStore c.args.store.now c.args.old.now c.args.limit

pub returns-clause-opened : goal.returns-clause-opened
returns-clause-opened g c = opened_of c.args.store.now c.args.old.now c.args.limit c.args.steps.now c.open_store.new.steps c.outer_of-outer.result.version c.outer_of-outer.result.text.now (seen_mac c.outer_of-outer.result.mac)
    c.in-Ok-parse_all.contents c.in-Ok.opened.contents c.in-Ok.opened.keys c.in-Ok.ensures.opened c.outer_of-outer.ensures c.in-Ok-parse_all.ensures.ok

pub returns-clause-exact : goal.returns-clause-exact
returns-clause-exact g c = decided_opened Opened OpenStore c.args.store.now c.args.old.now c.args.limit c.in-Ok.opened _ c.in-Ok.ensures.exact

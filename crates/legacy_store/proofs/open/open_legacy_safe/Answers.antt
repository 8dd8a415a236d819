use Rattle.legacy_store.proofs.Closed.{decided, opens}
use Rattle.legacy_store.proofs.open.open_legacy_safe.Goals as goal

pub returns-clause-opened : goal.returns-clause-opened
returns-clause-opened g c =
    opens c.args.rule c.args.store.now c.args.password.now c.args.limit c.args.steps.now c.open_by_cause.new.steps c.open_by_cause.result c.open_by_cause.ensures.opened

pub returns-clause-exact : goal.returns-clause-exact
returns-clause-exact g c =
    decided c.args.rule c.args.store.now c.args.password.now c.args.limit c.args.steps.now c.open_by_cause.new.steps c.open_by_cause.result c.open_by_cause.ensures.opened c.open_by_cause.ensures.refused

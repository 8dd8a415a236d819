use Rattle.pkcs12_c.specs.Changed.{renewal}
use Rattle.pkcs12_c.proofs.Reopening.{reopened}
use Rattle.pkcs12_c.proofs.upgraded.upgraded_from.Goals as goal

pub returns-clause-reopens : goal.returns-clause-reopens
returns-clause-reopens g c =
    reopened c.renewed_stores_open.ensures (renewal c.args.rounds c.args.limit) c.args.store.now c.args.password.now.text.now c.args.new_password.now.text.now c.args.limit _ _ _ _ c.upgrade_any.result c.upgrade_any.ensures.changed

use Rattle.p12.proofs.DefinitionLaws.{lists}
use Rattle.legacy_store.proofs.contents.check_bags.Goals as goal

pub returns-in-Ok-clause-ok : goal.returns-in-Ok-clause-ok
returns-in-Ok-clause-ok c = lists c.args.text.now c.in-Ok.field-0.left c.in-Ok.ensures.ok.0

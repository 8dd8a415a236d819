use Rattle.p12.proofs.DefinitionLaws.{store_sole}
use Rattle.p12.proofs.uniqueness.one_text_is_one_store.Goals as goal

pub returns : goal.returns
returns c = store_sole

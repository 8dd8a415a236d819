use Rattle.p12.proofs.DefinitionLaws.{bags_sole}
use Rattle.p12.proofs.uniqueness.one_text_lists_bags_once.Goals as goal

pub returns : goal.returns
returns c = bags_sole

use Rattle.p12.proofs.DefinitionLaws.{contents_sole}
use Rattle.p12.proofs.uniqueness.one_text_lists_contents_once.Goals as goal

pub returns : goal.returns
returns c = contents_sole

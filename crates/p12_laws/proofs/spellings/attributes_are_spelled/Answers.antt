use Rattle.p12_laws.proofs.SpelledStores.{attribute_spelled}
use Rattle.p12_laws.proofs.spellings.attributes_are_spelled.Goals as goal

pub returns : goal.returns
returns c = attribute_spelled

use Rattle.p12_laws.proofs.SpelledStores.{store_spelled}
use Rattle.p12_laws.proofs.spellings.stores_are_spelled.Goals as goal

pub returns : goal.returns
returns c = store_spelled

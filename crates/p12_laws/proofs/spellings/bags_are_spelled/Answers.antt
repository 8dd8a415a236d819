use Rattle.p12_laws.proofs.SpelledStores.{bag_spelled, bags_spelled}
use Rattle.p12_laws.proofs.spellings.bags_are_spelled.Goals as goal

pub returns-clause-one : goal.returns-clause-one
returns-clause-one c = bag_spelled

pub returns-clause-list : goal.returns-clause-list
returns-clause-list c = bags_spelled

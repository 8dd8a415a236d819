use Rattle.p12_laws.proofs.SpelledStores.{content_spelled, contents_spelled}
use Rattle.p12_laws.proofs.spellings.contents_are_spelled.Goals as goal

pub returns-clause-one : goal.returns-clause-one
returns-clause-one c = content_spelled

pub returns-clause-list : goal.returns-clause-list
returns-clause-list c = contents_spelled

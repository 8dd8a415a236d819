use Rattle.p12_laws.proofs.SpelledStores.{encrypted_content_spelled, encrypted_data_spelled}
use Rattle.p12_laws.proofs.spellings.encrypted_contents_are_spelled.Goals as goal

pub returns-clause-content : goal.returns-clause-content
returns-clause-content c = encrypted_content_spelled

pub returns-clause-versioned : goal.returns-clause-versioned
returns-clause-versioned c = encrypted_data_spelled

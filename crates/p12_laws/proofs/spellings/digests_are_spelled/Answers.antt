use Rattle.p12_laws.proofs.Spelled.{digest_spelled}
use Rattle.p12_laws.proofs.spellings.digests_are_spelled.Goals as goal

pub returns : goal.returns
returns c = digest_spelled

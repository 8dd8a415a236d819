use Rattle.p12_laws.proofs.Spelled.{mac_spelled}
use Rattle.p12_laws.proofs.spellings.macs_are_spelled.Goals as goal

pub returns : goal.returns
returns c = mac_spelled

use Rattle.p12.proofs.Macs.{mac_of_agrees}
use Rattle.p12_laws.proofs.made_stores.a_made_mac_agrees.Goals as goal

pub returns : goal.returns
returns c = mac_of_agrees

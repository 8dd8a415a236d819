use Rattle.p12_laws.proofs.Made.{store_sound}
use Rattle.p12_laws.proofs.made_stores.what_opens_has_no_fault.Goals as goal

pub returns : goal.returns
returns c = store_sound

use Rattle.rekey_core.proofs.Reopening.{upgrades_reopen}
use Rattle.rekey_core.proofs.laws.upgrades_reopen.Goals as goal

pub returns : goal.returns
returns c = λ r b p q limit left left_after steps steps_after x u. upgrades_reopen r b p q limit left left_after steps steps_after x u

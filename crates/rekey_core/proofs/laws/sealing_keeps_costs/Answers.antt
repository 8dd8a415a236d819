use Rattle.rekey_core.specs.declared.kinds.Kinds.TheVariants.{Kept}
use Rattle.rekey_core.proofs.Keeping.{cost_anew}
use Rattle.rekey_core.proofs.laws.sealing_keeps_costs.Goals as goal

pub returns : goal.returns
returns c = λ a b z o n. cost_anew Kept a b z n

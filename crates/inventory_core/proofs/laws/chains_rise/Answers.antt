use Rattle.inventory_core.proofs.Rising.{rise}
use Rattle.inventory_core.proofs.laws.chains_rise.Goals as goal

pub returns : goal.returns
returns c = λ cs start ks h. rise cs start ks h

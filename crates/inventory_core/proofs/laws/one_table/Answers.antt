use Rattle.inventory_core.proofs.Sole.{table_sole}
use Rattle.inventory_core.proofs.laws.one_table.Goals as goal

pub returns : goal.returns
returns c = table_sole

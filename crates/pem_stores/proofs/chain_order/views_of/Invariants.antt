use Rattle.std.proofs.Common.{take}
use Rattle.std.specs.List.{AllZip}
use Rattle.inventory_core.specs.View.{seen_all}
use Rattle.pem_stores.specs.ChainOrder.{IsRead}
use Rattle.pem_stores.proofs.chain_order.views_of.Given as goal

abbrev pub invariant-loop-certificate : goal.invariant-loop-certificate
invariant-loop-certificate l = AllZip IsRead (take l.certificate-index l.certificates) (seen_all l.views.items)

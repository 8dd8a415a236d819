use Rattle.std.proofs.Common.{List, ℕ, subst}
use Rattle.asn1_core.specs.Gives.{IsNone}
use Rattle.inventory_core.specs.Certificate.{IsCertificate}
use Rattle.pem_stores.proofs.chain_order.view_of.Goals as goal

pub returns-in-Err : goal.returns-in-Err
returns-in-Err c = subst (λ (b : List ℕ). IsNone IsCertificate b) c.as_slice.ensures c.in-Err.ensures.1

use Rattle.std.proofs.Common.{◌≡◌, ◌∷◌, ◌++◌, [], arith, rules}
use Rattle.std.proofs.lemmas.Grind.{common_steps}
use Rattle.pem_stores.proofs.Orders.{views_step}
use Rattle.pem_stores.proofs.chain_order.views_of.Goals as goal

pub loop-certificate-preserved : goal.loop-certificate-preserved
loop-certificate-preserved c =
    let pushed : c.push.new.self.items ≡ c.loop-certificate.views.items ++ c.view_of.result ∷ [] = first_of (cc, search rules, grind (arith, common_steps)) in
    views_step c.args.certificates.now c.loop-certificate.certificate-index c.certificate-item.result c.loop-certificate.views.items c.push.new.self.items c.view_of.result (omega arith) c.certificate-item.is
    c.loop-certificate.invariant c.view_of.ensures pushed

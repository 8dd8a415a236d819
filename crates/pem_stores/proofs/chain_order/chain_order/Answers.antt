use Rattle.std.proofs.Common.{◌≡◌, ◌-◌, ◌∙◌, List, Option, length, subst, arith, rules}
use Rattle.std.specs.List.{AllZip, range_with_len}
use Rattle.std.proofs.lemmas.Grind.{common_steps}
use Rattle.inventory_core.specs.Certificate.{Certificate}
use Rattle.inventory_core.specs.Chains.{IsChain}
use Rattle.inventory_core.specs.View.{seen_all}
use Rattle.inventory_core.specs.declared.certificate.CertificateView.{CertificateView}
use Rattle.pem_stores.specs.ChainOrder.{IsRead}
use Rattle.pem_stores.proofs.Orders.{chain_step, order_made}
use Rattle.pem_stores.proofs.chain_order.chain_order.Goals as goal

pub loop-start-preserved : goal.loop-start-preserved
loop-start-preserved c =
    let before = c.loop-start.invariant.chains in
    let read : List (Option Certificate) = seen_all c.in_ok-index.index.certificates.now in
    let chain : IsChain read c.loop-start.start c.as_slice-in-loop-start.result.now = first_of (search rules, grind (arith, common_steps)) in
    record {
      noted = c.in_ok-add_fresh.ensures.noted;
      chains = chain_step read c.args.own c.loop-start.start before.0 c.as_slice-in-loop-start.result.now c.loop-start.places.items c.add_fresh.new.places.items before.1 before.2 before.3 chain
          c.in_ok-add_fresh.ensures.places;
    }

pub returns : goal.returns
returns c =
    let chains = c.loop-start.invariant.chains in
    let views : c.in_ok-views.views.items ≡ c.in_ok-index.index.certificates.now = first_of (cc, search rules, grind (arith, common_steps)) in
    let read : AllZip IsRead c.args.certificates.now (seen_all c.in_ok-index.index.certificates.now) =
    subst (λ (vs : List (Option CertificateView)). AllZip IsRead c.args.certificates.now (seen_all vs)) views c.in_ok-views.ensures in
    let count : c.len-chained.result ≡ length c.loop-start.places.items = first_of (cc, omega arith, search rules) in
    let rest : c.as_slice-2.result.now ≡ range_with_len c.args.own (length c.args.certificates.now - c.args.own) = first_of (cc, search rules, grind (arith, common_steps)) in
    order_made c.args.certificates.now (seen_all c.in_ok-index.index.certificates.now) c.args.own chains.0 c.loop-start.places.items c.add_fresh-2.new.places.items c.as_slice-2.result.now c.len-chained.result read
    (chains.1 ∙ omega arith) chains.2 chains.3 count c.in_ok-add_fresh-2.ensures.places rest

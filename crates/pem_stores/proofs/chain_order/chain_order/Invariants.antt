use Rattle.std.proofs.Common.{◌≡◌, ℕ, List, [], length}
use Rattle.std.specs.BTreeMap as tree
use Rattle.std.specs.List.{concat}
use Rattle.std.specs.Option.{is_some}
use Rattle.std.specs.Ordering.{nat_cmp}
use Rattle.inventory_core.specs.View.{seen_all}
use Rattle.pem_stores.specs.ChainOrder.{AreChains, ArePlaces, with_fresh}
use Rattle.pem_stores.proofs.chain_order.chain_order.Given as goal

abbrev pub invariant-loop-start : goal.invariant-loop-start
invariant-loop-start l = record {
  noted : ArePlaces (λ q. is_some (tree.get nat_cmp l.noted q)) l.places.items;
  chains : (kss : List (List ℕ)) × (length kss ≡ l.start) × AreChains (seen_all l.index.certificates.now) 0 kss
      × (l.places.items ≡ with_fresh l.own [] (concat kss));
}

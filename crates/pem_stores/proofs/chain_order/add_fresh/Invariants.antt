use Rattle.std.proofs.Common.{◌≡◌, drop}
use Rattle.std.specs.BTreeMap as tree
use Rattle.std.specs.Option.{is_some}
use Rattle.std.specs.Ordering.{nat_cmp}
use Rattle.pem_stores.specs.ChainOrder.{ArePlaces, with_fresh}
use Rattle.pem_stores.proofs.chain_order.add_fresh.Given as goal

abbrev pub invariant-loop-place : goal.invariant-loop-place
invariant-loop-place l = record {
  places : with_fresh l.own l.places.items (drop l.place-index l.more) ≡ with_fresh l.own l.fn.places.items l.more;
  noted : ArePlaces (λ q. is_some (tree.get nat_cmp l.noted q)) l.places.items;
}

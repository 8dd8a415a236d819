use Rattle.std.proofs.Common.{◌≡◌, ◌<◌, ◌-◌}
use Rattle.std.specs.List.{range_with_len}
use Rattle.pem_stores.proofs.chain_order.places_from.Given as goal

abbrev pub invariant-loop-place : goal.invariant-loop-place
invariant-loop-place l = record {
  all : l.places.items ≡ range_with_len l.own (l.place - l.own);
  still : l.count < l.own → l.place ≡ l.own;
}

use Rattle.std.proofs.Common.{◌≡◌, take}
use Rattle.p12.specs.Collected.{keys_among}
use Rattle.p12.proofs.collecting.opened_keys.Given as goal

abbrev pub invariant-loop-bag : goal.invariant-loop-bag
invariant-loop-bag l = record {
  done : l.keys ≡ keys_among l.password (take l.bag-index l.bags);
}

use Rattle.std.proofs.Common.{◌≡◌, take}
use Rattle.transfer.proofs.store.copies.copied_bags.Given as goal

abbrev pub invariant-loop-bag : goal.invariant-loop-bag
invariant-loop-bag l = l.copies ≡ take l.bag-index l.bags

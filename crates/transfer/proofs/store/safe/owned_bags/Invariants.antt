use Rattle.std.proofs.Common.{◌≡◌, ◌++◌, length}
use Rattle.transfer.proofs.store.safe.owned_bags.Given as goal

abbrev pub invariant-loop-owned : goal.invariant-loop-owned
invariant-loop-owned l = record {
  still : l.owned ++ l.bags.left ≡ l.initial.bags.left;
}

abbrev pub decreases-loop-owned : goal.decreases-loop-owned
decreases-loop-owned l = length l.bags.left

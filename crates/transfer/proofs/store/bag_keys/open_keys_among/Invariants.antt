use Rattle.std.proofs.Common.{◌≡◌, ◌+◌, length}
use Rattle.std.specs.Prelude.{All}
use Rattle.transfer.specs.Opening.{IsStoredKey}
use Rattle.transfer.proofs.KeyWalks.{KeysOpened}
use Rattle.transfer.proofs.store.bag_keys.open_keys_among.Given as goal

abbrev pub invariant-loop-bag : goal.invariant-loop-bag
invariant-loop-bag g l = record {
  done : KeysOpened l.password l.fn.budget.limit l.fn.budget.spent l.initial.bags l.bags l.fn.keys l.keys l.budget.spent;
  stored : All IsStoredKey l.keys;
  same : l.budget.limit ≡ l.fn.budget.limit;
  steps : l.steps + l.fn.budget.spent ≡ l.fn.steps + l.budget.spent;
}

abbrev pub decreases-loop-bag : goal.decreases-loop-bag
decreases-loop-bag g l = length l.bags.left

use Rattle.std.proofs.Common.{◌≡◌, ◌+◌, take}
use Rattle.std.specs.Prelude.{All}
use Rattle.std.specs.List.{sum_by}
use Rattle.transfer.specs.Budget.{Spends}
use Rattle.transfer.specs.OpenedSafe.{contents_at}
use Rattle.transfer.specs.Opening.{IsStoredKey, all_shrouded, key_share, of_keys}
use Rattle.transfer.specs.Parts.{AreOpen}
use Rattle.transfer.proofs.store.bag_keys.open_keys.Given as goal

abbrev pub invariant-loop-place : goal.invariant-loop-place
invariant-loop-place g l = record {
  done : AreOpen (of_keys l.password l.fn.budget.limit) l.fn.budget.limit l.fn.budget.spent (all_shrouded (take l.place-index (contents_at l.text l.places))) l.keys;
  stored : All IsStoredKey l.keys;
  spent : Spends l.fn.budget l.budget (sum_by key_share (all_shrouded (take l.place-index (contents_at l.text l.places))));
  steps : l.steps ≡ l.fn.steps + sum_by key_share (all_shrouded (take l.place-index (contents_at l.text l.places)));
}

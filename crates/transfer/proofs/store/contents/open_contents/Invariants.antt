use Rattle.std.proofs.Common.{◌≡◌, ◌+◌, length}
use Rattle.transfer.proofs.ContentsInPlace.{Opening}
use Rattle.transfer.proofs.store.contents.open_contents.Given as goal

abbrev pub invariant-loop-content : goal.invariant-loop-content
invariant-loop-content g l = record {
  done : Opening l.password l.fn.budget.limit l.fn.budget.spent l.initial.contents l.contents l.text l.places l.budget.spent;
  same : l.budget.limit ≡ l.fn.budget.limit;
  steps : l.steps + l.fn.budget.spent ≡ l.fn.steps + l.budget.spent;
}

abbrev pub decreases-loop-content : goal.decreases-loop-content
decreases-loop-content g l = length l.contents.left

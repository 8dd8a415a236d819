use Rattle.std.proofs.Common.{◌≤◌, length, take}
use Rattle.std.specs.Prelude.{All}
use Rattle.transfer.specs.Limits.{store_limit}
use Rattle.legacy_store.proofs.open.are_short.Given as goal

abbrev pub invariant-loop-text : goal.invariant-loop-text
invariant-loop-text l = record {
  short : All (λ text. length text ≤ store_limit) (take l.text-index l.texts);
}

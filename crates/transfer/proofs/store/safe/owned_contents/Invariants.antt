use Rattle.std.proofs.Common.{◌≡◌, take}
use Rattle.transfer.specs.OpenedSafe.{contents_at}
use Rattle.transfer.proofs.store.safe.owned_contents.Given as goal

abbrev pub invariant-loop-place : goal.invariant-loop-place
invariant-loop-place l = record {
  taken : l.contents ≡ take l.place-index (contents_at l.text l.places);
}

use Rattle.std.proofs.Common.{◌≡◌, take}
use Rattle.transfer.proofs.store.copies.copied_contents.Given as goal

abbrev pub invariant-loop-bags : goal.invariant-loop-bags
invariant-loop-bags l = l.copies ≡ take l.bags-index l.contents

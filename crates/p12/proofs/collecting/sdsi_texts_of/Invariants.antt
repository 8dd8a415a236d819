use Rattle.std.proofs.Common.{◌≡◌, take}
use Rattle.p12.specs.Collected.{sdsi_among}
use Rattle.p12.proofs.collecting.sdsi_texts_of.Given as goal

abbrev pub invariant-loop-bag : goal.invariant-loop-bag
invariant-loop-bag l = record {
  done : l.texts ≡ sdsi_among (take l.bag-index l.bags);
}

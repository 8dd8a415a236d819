use Rattle.std.proofs.Common.{◌≡◌, take}
use Rattle.p12.specs.Collected.{certificates_among}
use Rattle.p12.proofs.collecting.certificates_of.Given as goal

abbrev pub invariant-loop-bag : goal.invariant-loop-bag
invariant-loop-bag l = record {
  done : l.certificates ≡ certificates_among (take l.bag-index l.bags);
}

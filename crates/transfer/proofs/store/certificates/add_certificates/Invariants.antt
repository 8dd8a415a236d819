use Rattle.std.proofs.Common.{◌≡◌, ◌++◌, length}
use Rattle.p12.specs.Collected.{certificates_among}
use Rattle.transfer.proofs.store.certificates.add_certificates.Given as goal

abbrev pub invariant-loop-bag : goal.invariant-loop-bag
invariant-loop-bag l = record {
  still : l.certificates ++ certificates_among l.bags.left ≡ l.fn.certificates ++ certificates_among l.initial.bags.left;
}

abbrev pub decreases-loop-bag : goal.decreases-loop-bag
decreases-loop-bag l = length l.bags.left

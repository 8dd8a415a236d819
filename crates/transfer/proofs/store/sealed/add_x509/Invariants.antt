use Rattle.std.proofs.Common.{◌≡◌, ◌++◌, take}
use Rattle.p12.specs.Collected.{certificates_among}
use Rattle.transfer.proofs.store.sealed.add_x509.Given as goal

abbrev pub invariant-loop-bag : goal.invariant-loop-bag
invariant-loop-bag l = record {
  taken : l.certificates ≡ l.fn.certificates ++ certificates_among (take l.bag-index l.bags);
}

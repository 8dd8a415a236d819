use Rattle.std.proofs.Common.{◌≡◌, take}
use Rattle.transfer.specs.Opening.{all_certificates}
use Rattle.transfer.proofs.store.sealed.x509_among.Given as goal

abbrev pub invariant-loop-bags : goal.invariant-loop-bags
invariant-loop-bags l = record {
  taken : l.certificates ≡ all_certificates (take l.bags-index l.contents);
}

use Rattle.std.proofs.Common.{◌≡◌, take}
use Rattle.transfer.specs.OpenedSafe.{contents_at}
use Rattle.transfer.specs.Opening.{all_certificates}
use Rattle.transfer.proofs.store.certificates.certificates_of.Given as goal

abbrev pub invariant-loop-place : goal.invariant-loop-place
invariant-loop-place l = record {
  taken : l.certificates ≡ all_certificates (take l.place-index (contents_at l.text l.places));
}

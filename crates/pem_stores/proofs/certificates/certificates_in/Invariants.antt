use Rattle.std.proofs.Common.{◌≡◌, All, take}
use Rattle.pem_stores.specs.Certificates.{IsCertificateText, certificates_of}
use Rattle.pem_stores.proofs.certificates.certificates_in.Given as goal

abbrev pub invariant-loop-block : goal.invariant-loop-block
invariant-loop-block l = record {
  in_order : l.certificates.items ≡ certificates_of (take l.block-index l.blocks);
  each : All IsCertificateText l.certificates.items;
}

use Rattle.std.proofs.Common.{◌≡◌, ◌++◌, take}
use Rattle.pkcs12_c.specs.PemText.{certificate_texts}
use Rattle.p12.specs.Collected.{certificates_among}
use Rattle.pkcs12_c.proofs.pem.add_certificates.Given as goal

abbrev pub invariant-loop-bag : goal.invariant-loop-bag
invariant-loop-bag l = record {
  made : l.text ≡ l.initial.text ++ certificate_texts (certificates_among (take l.bag-index l.bags));
}

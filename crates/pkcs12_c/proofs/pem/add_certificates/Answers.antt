use Rattle.std.specs.Prelude.{codes}
use Rattle.p12.specs.declared.safe_bag.SafeBag.{SafeBag}
use Rattle.pem_text.specs.Pem.{pem}
use Rattle.p12.specs.Collected.{at_most_one}
use Rattle.p12.specs.SafeBag.{x509_of}
use Rattle.pkcs12_c.proofs.Joined.{grown_by_all}
use Rattle.pkcs12_c.proofs.pem.add_certificates.Goals as goal

pub loop-bag-preserved : goal.loop-bag-preserved
loop-bag-preserved c = record {
  made = grown_by_all (λ (g : SafeBag). at_most_one (x509_of g.bag)) (pem (codes "CERTIFICATE")) c.args.bags.now c.loop-bag.bag-index c.bag-item.result c.args.text.now c.loop-bag.text c.add_certificate.new.text
      c.loop-bag-test.true c.bag-item.is c.loop-bag.invariant.made c.in_ok-add_certificate.ensures.ok;
}

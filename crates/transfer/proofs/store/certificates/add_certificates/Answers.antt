use Rattle.std.proofs.Common.{[], ◌∷◌, ◌++◌, ap, sym, ◌∙◌}
use Rattle.p12.specs.SafeBag.{x509_of}
use Rattle.p12.specs.Collected.{at_most_one}
use Rattle.p12.specs.BagView.{seen_bag}
use Rattle.transfer.proofs.BagsInPlace.{certificates_on}
use Rattle.transfer.proofs.store.certificates.add_certificates.Goals as goal

pub loop-bag-preserved-in_ok-push-in-X509 : goal.loop-bag-preserved-in_ok-push-in-X509
loop-bag-preserved-in_ok-push-in-X509 c = record {
  still = certificates_on _ _ c.in-Some.bag c.in-Some.ensures.some _ _ _ c.loop-bag.invariant.still
      (c.in_ok-push-in-X509.ensures.ok ∙ ap (λ t. c.loop-bag.certificates ++ t) (ap (λ x. x ∷ []) c.in_ok-from_slice-in-X509.ensures ∙ sym (ap (λ v. at_most_one (x509_of (seen_bag v))) c.in-X509.is)));
}

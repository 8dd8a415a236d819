use Rattle.std.proofs.Common.{List, ℕ, inr, refl, subst}
use Rattle.asn1_core.specs.Gives.{IsNone}
use Rattle.inventory_core.specs.Certificate.{IsCertificate}
use Rattle.inventory_core.specs.View.{seen_certificate}
use Rattle.pem_stores.proofs.certificates.add_certificate.Goals as goal

pub returns-in_ok-add_octets-in-Ok-clause-is : goal.returns-in_ok-add_octets-in-Ok-clause-is
returns-in_ok-add_octets-in-Ok-clause-is c =
    (seen_certificate c.in-Ok.field-0, subst (λ (b : List ℕ). IsCertificate b (seen_certificate c.in-Ok.field-0)) c.as_slice.ensures c.in-Ok.ensures)

pub returns-in-Err-clause-err : goal.returns-in-Err-clause-err
returns-in-Err-clause-err c = inr (refl, subst (λ (b : List ℕ). IsNone IsCertificate b) c.as_slice.ensures c.in-Err.ensures.1)

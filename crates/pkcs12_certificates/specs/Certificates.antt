-- What `list` reads of certificates.
use Rattle.std.specs.Prelude.{◌≡◌, ℕ, List}
use Rattle.inventory_core.specs.Certificate.{Certificate, IsCertificate}
use Rattle.x509_names.specs.Parts.{CertificateParts, HasParts}

-- Each certificate that the table of `inventory` takes has parts, and its issuer and subject are
-- those of the table.
abbrev pub CertificatesHaveParts : Type 0
CertificatesHaveParts = (b : List ℕ) (c : Certificate) → IsCertificate b c
    → (p : CertificateParts) × HasParts b p × (p.issuer ≡ c.issuer) × (p.subject ≡ c.subject)

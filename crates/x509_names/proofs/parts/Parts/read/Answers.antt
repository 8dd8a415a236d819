use Rattle.x509_names.specs.Parts.{seen_parts}
use Rattle.x509_names.proofs.CertificateFronts.{parses_parts}
use Rattle.x509_names.proofs.parts.Parts.read.Goals as goal

pub returns : goal.returns
returns c = parses_parts seen_parts _ _ _ (rw c.new-r.ensures.all at c.read_certificate.ensures)

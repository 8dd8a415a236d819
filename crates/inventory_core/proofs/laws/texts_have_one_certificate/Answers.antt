use Rattle.inventory_core.proofs.Certificates.{certificate_sole}
use Rattle.inventory_core.proofs.laws.texts_have_one_certificate.Goals as goal

pub returns : goal.returns
returns c = certificate_sole

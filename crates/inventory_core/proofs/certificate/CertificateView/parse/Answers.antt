use Rattle.inventory_core.specs.View.{seen_certificate}
use Rattle.inventory_core.proofs.Certificates.{parses_certificate}
use Rattle.inventory_core.proofs.certificate.CertificateView.parse.Goals as goal

pub returns : goal.returns
returns c = parses_certificate seen_certificate c.args.bytes.now c.read_whole.result c.read_whole.ensures

use Rattle.pem_stores.proofs.Kept.{certificates_are_kept}
use Rattle.pem_stores.proofs.laws.certificates_are_kept.Goals as goal

pub returns : goal.returns
returns c = certificates_are_kept

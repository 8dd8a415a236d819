use Rattle.asn1_core.proofs.Forms.{one_identifier}
use Rattle.asn1_core.proofs.identifier_laws.arcs_have_one_identifier.Goals as goal

pub returns : goal.returns
returns c = one_identifier

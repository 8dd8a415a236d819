use Rattle.asn1_core.proofs.Forms.{one_reading}
use Rattle.asn1_core.proofs.identifier_laws.texts_have_one_identifier.Goals as goal

pub returns : goal.returns
returns c = one_reading

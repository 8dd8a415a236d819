use Rattle.asn1_core.proofs.Forms.{text_found, text_again}
use Rattle.asn1_core.proofs.identifier_laws.identifiers_have_one_text.Goals as goal

pub returns : goal.returns
returns c = λ x y. (text_found x y, text_again x y)

use Rattle.asn1_core.proofs.Forms.{list_found, list_again}
use Rattle.asn1_core.proofs.identifier_laws.identifiers_have_one_list_of_arcs.Goals as goal

pub returns : goal.returns
returns c = λ x y. (list_found x y, list_again x y)

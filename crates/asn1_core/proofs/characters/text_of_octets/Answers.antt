use Rattle.std.proofs.Common.{arith}
use Rattle.asn1_core.specs.OctetLaws.{are}
use Rattle.asn1_core.proofs.characters.text_of_octets.Goals as goal

pub returns : goal.returns
returns c = rw (are c.args.octets.now (λ i. omega (arith, c.type_inv.octets i))) c.text_of_units.ensures

use Rattle.std.proofs.Common.{◌∙◌, sym, arith}
use Rattle.asn1_core.specs.OctetLaws.{are}
use Rattle.p12.proofs.UnitsPass.{units_pass_text, units_fail}
use Rattle.p12.proofs.attribute.check_units.Goals as goal

pub returns-then-are_units : goal.returns-then-are_units
returns-then-are_units c = rw (are c.args.octets.now (λ i. omega (arith, c.type_inv.octets i))) (units_pass_text c.args.octets.now (sym c.are_units.ensures ∙ c.if-are_units.true))

pub returns-else-are_units : goal.returns-else-are_units
returns-else-are_units c = rw (are c.args.octets.now (λ i. omega (arith, c.type_inv.octets i))) (units_fail c.args.octets.now (sym c.are_units.ensures ∙ c.if-are_units.false))

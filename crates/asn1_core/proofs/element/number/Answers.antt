use Rattle.std.proofs.Common.{arith}
use Rattle.asn1_core.proofs.element.number.Goals as goal

pub overflow_mul-result-in-len4-3 : goal.overflow_mul-result-in-len4-3
overflow_mul-result-in-len4-3 c = omega (arith, c.type_inv.octets 0, c.type_inv.octets 1, c.type_inv.octets 2)

pub overflow_add-result-in-len4-3 : goal.overflow_add-result-in-len4-3
overflow_add-result-in-len4-3 c = omega (arith, c.type_inv.octets 0, c.type_inv.octets 1, c.type_inv.octets 2, c.type_inv.octets 3)

use Rattle.std.proofs.Common.{rules, arith}
use Rattle.asn1_core.specs.OctetLaws.{taken}
use Rattle.asn1_core.proofs.element.long.Goals as goal

pub returns-clause-exact : goal.returns-clause-exact
returns-clause-exact c = let t = taken c.args.k c.args.octets.now (λ i. omega (arith, c.type_inv.octets i)) in search rules

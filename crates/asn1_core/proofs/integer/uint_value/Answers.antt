use Rattle.std.proofs.Common.{rules, arith}
use Rattle.asn1_core.specs.OctetLaws.{are}
use Rattle.asn1_core.specs.Reading.{uint_of}
use Rattle.asn1_core.proofs.integer.uint_value.Goals as goal

pub returns-clause-exact : goal.returns-clause-exact
unfolding uint_of
returns-clause-exact c = let t = are c.args.octets.now (λ i. omega (arith, c.type_inv.octets i)) in search rules

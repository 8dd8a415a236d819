use Rattle.std.proofs.Common.{arith, subst, sym, List, ℕ, IsTrue}
use Rattle.asn1_core.specs.Identifier.{is_identifier}
use Rattle.asn1_core.proofs.Words.{arcs_within}
use Rattle.asn1_core.proofs.identifier.ObjectIdentifier.arc_count.Goals as goal

pub returns-clause-within : goal.returns-clause-within
returns-clause-within c =
    let few = arcs_within c.as_bytes.result.now (subst (λ (v : List ℕ). IsTrue (is_identifier v)) (sym c.as_bytes.ensures.value) c.as_bytes.ensures.grammar) in
    (omega (arith, c.count.ensures, few.0), omega (arith, c.count.ensures, few.1))

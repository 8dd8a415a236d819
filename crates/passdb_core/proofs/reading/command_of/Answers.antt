use Rattle.passdb_core.proofs.Words.{command_has_space, not_same, verb_is_known}
use Rattle.passdb_core.proofs.reading.command_of.Goals as goal

pub returns-in_default : goal.returns-in_default
returns-in_default c = λ d is e. command_has_space c.args.line.now d c.in_default.ensures e

pub returns : goal.returns
returns c =
    verb_is_known c.args.line.now c.in-Some.verb.now c.in-Some.back.now c.in-Some.ensures
    (not_same c.eq.result c.in-Some.verb.now c.as_slice.result.now _ c.eq.ensures c.as_slice.ensures c.if-eq.false)
    (not_same c.eq-2.result c.in-Some.verb.now c.as_slice-2.result.now _ c.eq-2.ensures c.as_slice-2.ensures c.if-eq-2.false)
    (not_same c.eq-3.result c.in-Some.verb.now c.as_slice-3.result.now _ c.eq-3.ensures c.as_slice-3.ensures c.if-eq-3.false)
    (not_same c.eq-4.result c.in-Some.verb.now c.as_slice-4.result.now _ c.eq-4.ensures c.as_slice-4.ensures c.if-eq-4.false)

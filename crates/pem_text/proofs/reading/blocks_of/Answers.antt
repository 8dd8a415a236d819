use Rattle.std.proofs.Common.{◌≡◌, ◌<◌, ◌∙◌, sym, ap, length, rules, arith}
use Rattle.std.specs.Prelude.{None, Some}
use Rattle.std.proofs.lemmas.Grind.{common_steps}
use Rattle.std.proofs.lemmas.List.{nil_from_length}
use Rattle.pem_text.specs.Reading.{lines, outcome}
use Rattle.pem_text.proofs.LineCuts.{cause_along, outcome_cause, outcome_end, outcome_next, outcome_open}
use Rattle.pem_text.proofs.reading.blocks_of.Goals as goal

pub returns-in-Err-clause-err : goal.returns-in-Err-clause-err
returns-in-Err-clause-err c =
    let some : 0 < length c.loop-rest.rest.now = first_of (search rules, grind (arith, common_steps)) in
    cause_along _ _ c.in-Err.error (sym c.loop-rest.invariant)
    (outcome_cause c.loop-rest.rest.now c.first_line.result.0.now c.first_line.result.1.now c.loop-rest.blocks.items c.loop-rest.part c.in-Err.error
    some c.first_line.ensures.line c.first_line.ensures.rest c.in-Err.ensures.err)

pub loop-rest-preserved : goal.loop-rest-preserved
loop-rest-preserved c =
    let some : 0 < length c.loop-rest.rest.now = first_of (search rules, grind (arith, common_steps)) in
    c.loop-rest.invariant ∙ outcome_next c.loop-rest.rest.now c.first_line.result.0.now c.first_line.result.1.now c.loop-rest.blocks.items c.loop-rest.part
    c.read_line.new.blocks.items c.in-Ok.next some c.first_line.ensures.line c.first_line.ensures.rest c.in-Ok.ensures.ok

pub returns-in-Some-clause-err : goal.returns-in-Some-clause-err
returns-in-Some-clause-err c =
    let none : length c.loop-rest.rest.now ≡ 0 = first_of (search rules, grind (arith, common_steps)) in
    c.loop-rest.invariant
    ∙ ap (λ (p : _). outcome (lines c.loop-rest.rest.now) c.loop-rest.blocks.items p) c.in-Some.is
    ∙ ap (λ (t : _). outcome (lines t) c.loop-rest.blocks.items (Some c.in-Some.part)) (nil_from_length c.loop-rest.rest.now none)
    ∙ outcome_open c.loop-rest.blocks.items c.in-Some.part

pub returns-in-None-clause-ok : goal.returns-in-None-clause-ok
returns-in-None-clause-ok c =
    let none : length c.loop-rest.rest.now ≡ 0 = first_of (search rules, grind (arith, common_steps)) in
    c.loop-rest.invariant
    ∙ ap (λ (p : _). outcome (lines c.loop-rest.rest.now) c.loop-rest.blocks.items p) c.in-None.is
    ∙ ap (λ (t : _). outcome (lines t) c.loop-rest.blocks.items None) (nil_from_length c.loop-rest.rest.now none)
    ∙ outcome_end c.loop-rest.blocks.items

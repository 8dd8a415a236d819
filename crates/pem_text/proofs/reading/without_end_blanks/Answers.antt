use Rattle.std.proofs.Common.{◌≡◌, ◌++◌, ◌∷◌, [], ◌∙◌, sym, ap, length, rules, arith, true, false}
use Rattle.std.specs.Prelude.{reverse}
use Rattle.std.proofs.lemmas.Grind.{common_steps}
use Rattle.std.proofs.lemmas.List.{nil_from_length}
use Rattle.pem_text.specs.Reading.{is_blank, without_end_blanks}
use Rattle.pem_text.proofs.Blanks.{keep_last, keep_none, skip_last}
use Rattle.pem_text.proofs.reading.without_end_blanks.Goals as goal

pub loop-last-preserved : goal.loop-last-preserved
loop-last-preserved c =
    let ends : c.loop-last.line.now ≡ c.in-Some.front.now ++ c.in-Some.last.now ∷ [] = first_of (search rules, cc, grind (arith, common_steps)) in
    let blank : is_blank c.in-Some.last.now ≡ true = first_of (search rules, cc, grind (arith, common_steps)) in
    skip_last c.loop-last.line.now c.in-Some.front.now c.in-Some.last.now ends blank ∙ c.loop-last.invariant

pub returns-then-not-is_blank : goal.returns-then-not-is_blank
returns-then-not-is_blank c =
    let ends : c.loop-last.line.now ≡ c.in-Some.front.now ++ c.in-Some.last.now ∷ [] = first_of (search rules, cc, grind (arith, common_steps)) in
    let other : is_blank c.in-Some.last.now ≡ false = first_of (search rules, cc, grind (arith, common_steps)) in
    sym (keep_last c.loop-last.line.now c.in-Some.front.now c.in-Some.last.now ends other) ∙ ap reverse c.loop-last.invariant

pub returns-in_default : goal.returns-in_default
returns-in_default c =
    let none : length c.loop-last.line.now ≡ 0 = first_of (search rules, cc, grind (arith, common_steps)) in
    let empty : c.loop-last.line.now ≡ [] = nil_from_length c.loop-last.line.now none in
    empty ∙ sym keep_none ∙ ap without_end_blanks (sym empty) ∙ ap reverse c.loop-last.invariant

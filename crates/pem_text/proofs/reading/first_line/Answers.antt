use Rattle.std.proofs.Common.{◌≡◌, ◌+◌, ◌-◌, ◌∙◌, ap, arith, drop, length, min, rules, ℕ}
use Rattle.std.specs.Prelude.{◌==◌}
use Rattle.std.specs.List.{position_or_len}
use Rattle.std.proofs.lemmas.Grind.{common_steps}
use Rattle.std.proofs.lemmas.List.{length-drop, take_all}
use Rattle.pem_text.proofs.LineCuts.{rest_min}
use Rattle.pem_text.proofs.reading.first_line.Goals as goal

pub returns-clause-rest : goal.returns-clause-rest
returns-clause-rest c =
    let text = c.args.text.now in
    let next = c.min-next.result in
    let at : next ≡ min (position_or_len (λ x. x == 10) text + 1) (length text) =
    first_of (search rules, cc, grind (arith, common_steps)) in
    take_all (length text - next) (drop next text) (omega (arith, length-drop next text))
    ∙ ap (λ (k : ℕ). drop k text) at
    ∙ rest_min text (position_or_len (λ x. x == 10) text)

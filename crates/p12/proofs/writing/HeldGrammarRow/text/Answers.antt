use Rattle.std.proofs.Common.{◌∙◌, []}
use Rattle.std.proofs.lemmas.Result.{err_from_is_err_and}
use Rattle.p12.proofs.TextRefusals.{memory_refused}
use Rattle.p12.proofs.writing.HeldGrammarRow.text.Goals as goal

pub returns-in_err-write_element : goal.returns-in_err-write_element
returns-in_err-write_element c =
    let p = err_from_is_err_and c.from_residual.result c.from_residual.ensures.1 in
    rw (p.1, p.2) (memory_refused _ _ _ (λ h. absurd h) _ c.in_err-write_element.ensures.writes.cause)

pub returns : goal.returns
returns c = (c.into_octets.ensures ∙ c.in_ok-write_element.ensures.writes.adds [] c.new-w.ensures, c.in_ok-write_element.ensures.short, tt)

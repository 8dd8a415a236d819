use Rattle.std.proofs.Common.{◌∙◌, []}
use Rattle.std.proofs.lemmas.Result.{err_from_is_err_and}
use Rattle.p12.proofs.TextRefusals.{memory_refused}
use Rattle.p12.proofs.writing.Ia5GrammarRow.text.Goals as goal

pub returns-in_err-write_ia5 : goal.returns-in_err-write_ia5
returns-in_err-write_ia5 c =
    let p = err_from_is_err_and c.from_residual.result c.from_residual.ensures.1 in
    rw (p.1, p.2) (memory_refused _ _ _ (λ h. h) _ c.in_err-write_ia5.ensures.writes.cause)

pub returns : goal.returns
returns c = (c.into_octets.ensures ∙ c.in_ok-write_ia5.ensures.writes.adds [] c.new-w.ensures, c.in_ok-write_ia5.ensures.short, c.in_ok-write_ia5.ensures.text.1.1)

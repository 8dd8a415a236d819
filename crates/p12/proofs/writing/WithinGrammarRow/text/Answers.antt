use Rattle.std.proofs.lemmas.Result.{err_from_is_err_and}
use Rattle.p12.proofs.TextRefusals.{inside_refused}
use Rattle.p12.proofs.writing.WithinGrammarRow.text.Goals as goal

pub returns-in_err-value : goal.returns-in_err-value
returns-in_err-value g c =
    let p = err_from_is_err_and c.from_residual.result c.from_residual.ensures.1 in
    rw (p.1, p.2) (inside_refused _ c.args.self.now.tag.first _ _ c.in_err-value.ensures)

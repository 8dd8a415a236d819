use Rattle.std.proofs.Common.{arith, length-append}
use Rattle.std.proofs.lemmas.Result.{err_from_is_err_and}
use Rattle.p12.proofs.TextRefusals.{part_refused}
use Rattle.p12.proofs.writing.BothGrammarRow.text.Goals as goal

pub returns-in_err-front : goal.returns-in_err-front
returns-in_err-front g c =
    let p = err_from_is_err_and c.from_residual.result c.from_residual.ensures.1 in
    let a = g.A.GrammarRow.canon c.args.self.now.0.now in
    let b = g.B.GrammarRow.canon c.args.self.now.1.now in
    rw (p.1, p.2) (part_refused _ _ _ _ (λ h. h.0) (omega (arith, length-append a b)) _ c.in_err-front.ensures)

pub returns-in_err-behind : goal.returns-in_err-behind
returns-in_err-behind g c =
    let p = err_from_is_err_and c.from_residual-in_err-behind.result c.from_residual-in_err-behind.ensures.1 in
    let a = g.A.GrammarRow.canon c.args.self.now.0.now in
    let b = g.B.GrammarRow.canon c.args.self.now.1.now in
    rw (p.1, p.2) (part_refused _ _ _ _ (λ h. h.1) (omega (arith, length-append a b)) _ c.in_err-behind.ensures)

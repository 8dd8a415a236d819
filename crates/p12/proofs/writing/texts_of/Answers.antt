use Rattle.std.proofs.Common.{◌∙◌, ◌+◌, ◌++◌, ◌∷◌, [], List, ℕ, ap, drop, map, sym}
use Rattle.std.proofs.lemmas.Result.{err_from_is_err_and}
use Rattle.p12.proofs.TextRefusals.{can_more, list_more, listed_refused}
use Rattle.p12.proofs.writing.texts_of.Goals as goal

pub returns-in_err-text : goal.returns-in_err-text
returns-in_err-text g c =
    let p = err_from_is_err_and c.from_residual.result c.from_residual.ensures.1 in
    rw (p.1, p.2) (listed_refused g.T.GrammarRow.canon g.T.GrammarRow.writable c.args.rows.now c.loop-row.row-index c.row-item.result c.loop-row-test.true c.row-item.is _ c.in_err-text.ensures)

pub loop-row-preserved : goal.loop-row-preserved
loop-row-preserved g c =
    let canon = g.T.GrammarRow.canon in
    let can = g.T.GrammarRow.writable in
    let rows = c.args.rows.now in
    let i = c.loop-row.row-index in
    let x = c.row-item.result in
    let front = c.loop-row.texts in
    let is = c.in_ok-push.ensures.ok ∙ ap (λ (t : List ℕ). front ++ t ∷ []) c.in_ok-text.ensures.0 in (
      list_more canon can rows i x c.loop-row-test.true c.row-item.is front c.loop-row.invariant.0 ∙ ap (λ (l : List (List ℕ)). l ++ map canon (drop (i + 1) rows)) (sym is),
      can_more canon can rows i x c.loop-row-test.true c.row-item.is c.in_ok-text.ensures.2 c.loop-row.invariant.1,
    )

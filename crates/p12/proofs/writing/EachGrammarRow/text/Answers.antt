use Rattle.std.proofs.Common.{◌∙◌, ◌+◌, ◌++◌, List, ℕ, ap, drop, map, subst, sym}
use Rattle.std.proofs.lemmas.Result.{err_from_is_err_and}
use Rattle.asn1_core.specs.Der.{IsShort, joined}
use Rattle.p12.proofs.TextRefusals.{can_more, each_more, join_refused, row_refused}
use Rattle.p12.proofs.writing.EachGrammarRow.text.Goals as goal

pub returns-in_err-text : goal.returns-in_err-text
returns-in_err-text g c =
    let p = err_from_is_err_and c.from_residual.result c.from_residual.ensures.1 in
    rw (p.1, p.2) (row_refused g.T.GrammarRow.canon g.T.GrammarRow.writable c.args.self.now.0.now c.loop-row.row-index c.row-item.result c.loop-row-test.true c.row-item.is c.loop-row.all c.loop-row.invariant.0 _ c.in_err-text.ensures)

pub returns-in_err-all : goal.returns-in_err-all
returns-in_err-all g c =
    let p = err_from_is_err_and c.from_residual-in_err-all.result c.from_residual-in_err-all.ensures.1 in
    rw (p.1, p.2) (join_refused g.T.GrammarRow.canon g.T.GrammarRow.writable c.args.self.now.0.now c.loop-row.row-index c.row-item.result c.loop-row-test.true c.row-item.is c.loop-row.all _ c.loop-row.invariant.0 (c.as_slice.ensures ∙ c.in_ok-text.ensures.0) _ c.in_err-all.ensures)

pub loop-row-preserved : goal.loop-row-preserved
loop-row-preserved g c =
    let canon = g.T.GrammarRow.canon in
    let can = g.T.GrammarRow.writable in
    let rows = c.args.self.now.0.now in
    let i = c.loop-row.row-index in
    let x = c.row-item.result in
    let front = c.loop-row.all in
    let is = c.in_ok-all.ensures.0 ∙ ap (λ (t : List ℕ). front ++ t) (c.as_slice.ensures ∙ c.in_ok-text.ensures.0) in (
      each_more canon can rows i x c.loop-row-test.true c.row-item.is front c.loop-row.invariant.0 ∙ ap (λ (t : List ℕ). t ++ joined (map canon (drop (i + 1) rows))) (sym is),
      subst IsShort (sym c.in_ok-all.ensures.0) c.in_ok-all.ensures.1,
      can_more canon can rows i x c.loop-row-test.true c.row-item.is c.in_ok-text.ensures.2 c.loop-row.invariant.2,
    )

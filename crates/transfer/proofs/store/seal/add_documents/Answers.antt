use Rattle.std.proofs.Common.{◌≡◌, ◌∷◌, [], ◌++◌, ◌∙◌, ap, append-nil, append_assoc, arith, length, sym}
use Rattle.std.proofs.lemmas.List.{nil_from_length}
use Rattle.std.specs.Vec.Iter.{into_iter_items}
use Rattle.transfer.proofs.store.seal.add_documents.Goals as goal

pub loop-document-preserved : goal.loop-document-preserved
loop-document-preserved c =
    let at = c.loop-document in
    let step : into_iter_items at.document-iterator ≡ c.in-Some.document ∷ into_iter_items c.next.new.self = c.in-Some.ensures.steps.0 in
    let was = at.invariant.1 in
    let gone = c.in-Some.ensures.steps.1 in
    let short = ap length step in (
      rw (c.in_ok-push.ensures.ok) (append_assoc at.documents (c.in-Some.document ∷ []) _ ∙ rw (← step) at.invariant.0),
      omega arith,
    )

pub returns-clause-ok : goal.returns-clause-ok
returns-clause-ok c =
    let at = c.loop-document in
    let empty : into_iter_items at.document-iterator ≡ [] = nil_from_length _ (sym at.invariant.1 ∙ c.in-None.ensures.steps.0) in
    sym (append-nil at.documents) ∙ rw empty at at.invariant.0 ∙ ap (λ items. c.args.documents.now ++ items) (c.into_iter-document-iterator.ensures.into_iter_gives.0 ∙ c.into_vec-document-items.ensures)

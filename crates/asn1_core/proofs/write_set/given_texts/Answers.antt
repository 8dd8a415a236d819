use Rattle.std.proofs.Common.{subst, ◌∙◌, ◌≤◌, List, ℕ, length}
use Rattle.std.proofs.lemmas.List.{take_all}
use Rattle.std.proofs.lemmas.Result.{IfOk-from_err}
use Rattle.asn1_core.proofs.write_set.given_texts.Goals as goal

pub returns-clause-ok : goal.returns-clause-ok
returns-clause-ok c =
    let all : length c.args.elements.now ≤ c.loop-element.element-index = subst (λ (l : List (List ℕ)). length l ≤ c.loop-element.element-index) c.as_slice-element-items.ensures c.loop-element-test.false in
    c.loop-element.invariant ∙ take_all c.loop-element.element-index c.args.elements.now all

pub returns-in_err-push-clause-ok : goal.returns-in_err-push-clause-ok
returns-in_err-push-clause-ok c = IfOk-from_err _ _ c.from_residual.ensures.0

use Rattle.std.proofs.Common.{◌≡◌, ◌∷◌, [], rules, ap, sym, ◌∙◌}
use Rattle.std.proofs.lemmas.Result.{err_from_is_err_and}
use Rattle.rekey_core.proofs.Supplying.{contents_end, contents_long, contents_next, contents_start, contents_step, empty_is}
use Rattle.rekey_core.proofs.contents.seal_contents.Goals as goal

pub loop-content-init : goal.loop-content-init
loop-content-init c = rw (c.new-made.ensures) (contents_start c.args.to c.args.new.now c.args.contents.now c.args.bags.now c.args.supply.now.keys.now c.args.supply.now.drawn.now c.requires.room)

pub seal_content-requires-clause-open : goal.seal_content-requires-clause-open
seal_content-requires-clause-open c =
    let rest : c.loop-content.rest.now ≡ c.in-Some.content.now ∷ c.in-Some.back.now = search rules in
    let held : c.loop-content.rest_bags.now ≡ c.in-Some-split_first.held.now ∷ c.in-Some-split_first.held_after.now = search rules in
    contents_next c.args.to c.args.new.now c.args.contents.now c.loop-content.rest.now c.in-Some.content.now c.in-Some.back.now c.args.bags.now c.loop-content.rest_bags.now c.as_slice.result.now c.in-Some-split_first.held_after.now
    c.args.supply.now.keys.now c.loop-content.supply.keys.now c.args.supply.now.drawn.now c.loop-content.supply.drawn.now c.loop-content.made c.loop-content.invariant rest
    (held ∙ ap (λ x. x ∷ c.in-Some-split_first.held_after.now) (sym c.as_slice.ensures)) c.requires.open

pub returns-in_err-sealed-clause-err : goal.returns-in_err-sealed-clause-err
returns-in_err-sealed-clause-err c =
    let p = err_from_is_err_and c.from_residual.result c.from_residual.ensures.1 in
    let rest : c.loop-content.rest.now ≡ c.in-Some.content.now ∷ c.in-Some.back.now = search rules in
    let held : c.loop-content.rest_bags.now ≡ c.in-Some-split_first.held.now ∷ c.in-Some-split_first.held_after.now = search rules in
    rw (p.1, p.2) (contents_long c.args.to c.args.new.now c.args.contents.now c.loop-content.rest.now c.in-Some.content.now c.in-Some.back.now c.args.bags.now c.loop-content.rest_bags.now c.as_slice.result.now c.in-Some-split_first.held_after.now
    c.args.supply.now.keys.now c.loop-content.supply.keys.now c.args.supply.now.drawn.now c.loop-content.supply.drawn.now c.loop-content.made c.in_err-sealed.field-0.0 c.loop-content.invariant rest
    (held ∙ ap (λ x. x ∷ c.in-Some-split_first.held_after.now) (sym c.as_slice.ensures)) c.in_err-sealed.ensures.err)

pub loop-content-preserved : goal.loop-content-preserved
loop-content-preserved c =
    let rest : c.loop-content.rest.now ≡ c.in-Some.content.now ∷ c.in-Some.back.now = search rules in
    let held : c.loop-content.rest_bags.now ≡ c.in-Some-split_first.held.now ∷ c.in-Some-split_first.held_after.now = search rules in
    rw (c.in_ok-push.ensures.ok) (contents_step c.args.to c.args.new.now c.args.contents.now c.loop-content.rest.now c.in-Some.content.now c.in-Some.back.now c.args.bags.now c.loop-content.rest_bags.now c.as_slice.result.now c.in-Some-split_first.held_after.now
    c.args.supply.now.keys.now c.loop-content.supply.keys.now c.seal_content.new.supply.keys.now c.args.supply.now.drawn.now c.loop-content.supply.drawn.now c.seal_content.new.supply.drawn.now c.loop-content.made c.in_ok-sealed.sealed
    c.loop-content.invariant rest (held ∙ ap (λ x. x ∷ c.in-Some-split_first.held_after.now) (sym c.as_slice.ensures)) c.in_ok-sealed.ensures.sealed c.in_ok-sealed.ensures.used)

pub returns-clause-sealed : goal.returns-clause-sealed
returns-clause-sealed c =
    let none : c.loop-content.rest.now ≡ [] = empty_is c.loop-content.rest.now c.in_default.ensures.cases in
    contents_end c.args.to c.args.new.now c.args.contents.now c.loop-content.rest.now c.args.bags.now c.loop-content.rest_bags.now c.args.supply.now.keys.now c.loop-content.supply.keys.now c.args.supply.now.drawn.now c.loop-content.supply.drawn.now
    c.loop-content.made c.loop-content.invariant none

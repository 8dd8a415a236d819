use Rattle.std.proofs.Common.{◌≡◌, ◌∷◌, [], rules}
use Rattle.std.proofs.lemmas.Result.{err_from_is_err_and}
use Rattle.rekey_core.proofs.Supplying.{bags_end, bags_long, bags_next, bags_step, empty_is}
use Rattle.rekey_core.proofs.bags.seal_bags.Goals as goal

pub seal_bag-requires-clause-open : goal.seal_bag-requires-clause-open
seal_bag-requires-clause-open c =
    let rest : c.loop-bag.rest.now ≡ c.in-Some.bag.now ∷ c.in-Some.back.now = search rules in
    bags_next c.args.to c.args.new.now c.args.bags.now c.loop-bag.rest.now c.in-Some.bag.now c.in-Some.back.now c.args.supply.now.keys.now c.loop-bag.supply.keys.now c.args.supply.now.drawn.now c.loop-bag.supply.drawn.now c.loop-bag.made
    c.loop-bag.invariant rest c.requires.open

pub returns-in_err-sealed-clause-err : goal.returns-in_err-sealed-clause-err
returns-in_err-sealed-clause-err c =
    let p = err_from_is_err_and c.from_residual.result c.from_residual.ensures.1 in
    let rest : c.loop-bag.rest.now ≡ c.in-Some.bag.now ∷ c.in-Some.back.now = search rules in
    rw (p.1, p.2) (bags_long c.args.to c.args.new.now c.args.bags.now c.loop-bag.rest.now c.in-Some.bag.now c.in-Some.back.now c.args.supply.now.keys.now c.loop-bag.supply.keys.now c.args.supply.now.drawn.now c.loop-bag.supply.drawn.now c.loop-bag.made
    c.in_err-sealed.field-0.0 c.loop-bag.invariant rest c.in_err-sealed.ensures.err)

pub loop-bag-preserved : goal.loop-bag-preserved
loop-bag-preserved c =
    let rest : c.loop-bag.rest.now ≡ c.in-Some.bag.now ∷ c.in-Some.back.now = search rules in
    rw (c.in_ok-push.ensures.ok) (bags_step c.args.to c.args.new.now c.args.bags.now c.loop-bag.rest.now c.in-Some.bag.now c.in-Some.back.now c.args.supply.now.keys.now c.loop-bag.supply.keys.now c.seal_bag.new.supply.keys.now
    c.args.supply.now.drawn.now c.loop-bag.supply.drawn.now c.seal_bag.new.supply.drawn.now c.loop-bag.made c.in_ok-sealed.sealed c.loop-bag.invariant rest c.in_ok-sealed.ensures.sealed c.in_ok-sealed.ensures.used)

pub returns-clause-sealed : goal.returns-clause-sealed
returns-clause-sealed c =
    let none : c.loop-bag.rest.now ≡ [] = empty_is c.loop-bag.rest.now c.in_default.ensures.cases in
    bags_end c.args.to c.args.new.now c.args.bags.now c.loop-bag.rest.now c.args.supply.now.keys.now c.loop-bag.supply.keys.now c.args.supply.now.drawn.now c.loop-bag.supply.drawn.now c.loop-bag.made c.loop-bag.invariant none

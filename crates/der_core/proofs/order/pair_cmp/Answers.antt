use Rattle.std.proofs.Common.{◌∙◌, sym}
use Rattle.std.proofs.lemmas.Result.{IfOk-from_err}
use Rattle.der_core.specs.OrderLaws.{elements_are_ordered}
use Rattle.der_core.proofs.Orders.{decides, answers}
use Rattle.der_core.proofs.order.pair_cmp.Goals as goal

pub returns-in-Equal-clause-ok : goal.returns-in-Equal-clause-ok
returns-in-Equal-clause-ok g c =
    let a = elements_are_ordered _ _ (g.B.Encode.canon c.args.second.now) (g.B.Encode.canon c.args.other_second.now) (g.met.A.ElementText.element c.args.first.now) (g.met.A.ElementText.element c.args.other_first.now) in
    let b = rw (← c.in_ok-unequal.ensures.ok, c.in-Equal.is) at a in
    answers c.der_cmp-in-Equal.result _ _ (sym b) c.der_cmp-in-Equal.ensures.ok

pub returns-in_default : goal.returns-in_default
returns-in_default g c =
    let a = elements_are_ordered _ _ (g.B.Encode.canon c.args.second.now) (g.B.Encode.canon c.args.other_second.now) (g.met.A.ElementText.element c.args.first.now) (g.met.A.ElementText.element c.args.other_first.now) in
    let b = rw (← c.in_ok-unequal.ensures.ok) at a in
    record { ok = decides c.in_ok-unequal.unequal _ c.in_default.not-Equal ∙ sym b; err = tt }

pub returns-in_err-unequal-clause-ok : goal.returns-in_err-unequal-clause-ok
returns-in_err-unequal-clause-ok g c = IfOk-from_err _ _ c.from_residual.ensures.0

use Rattle.std.proofs.Common.{◌∙◌}
use Rattle.std.proofs.lemmas.Result.{err_from_is_err_and}
use Rattle.asn1_core.specs.WritingLaws.{refused_el}
use Rattle.der_core.specs.OrderLaws.{by_value}
use Rattle.der_core.proofs.Orders.{decides, answers, of_first, of_second}
use Rattle.der_core.proofs.order.AnyDerOrd.der_cmp.Goals as goal

pub returns-in_err-one-clause-err : goal.returns-in_err-one-clause-err
returns-in_err-one-clause-err g c =
    let p = err_from_is_err_and c.from_residual.result c.from_residual.ensures.1 in
    rw (p.1, p.2) (of_first _ _ _ _ _ (refused_el _ (g.T.Tagged.tag_of c.args.self.now) (g.T.EncodeValue.content c.args.self.now) _ c.in_err-one.ensures.measured))

pub returns-in_err-two-clause-err : goal.returns-in_err-two-clause-err
returns-in_err-two-clause-err g c =
    let p = err_from_is_err_and c.from_residual-in_err-two.result c.from_residual-in_err-two.ensures.1 in
    rw (p.1, p.2) (of_second _ _ _ _ _ (refused_el _ (g.T.Tagged.tag_of c.args.other.now) (g.T.EncodeValue.content c.args.other.now) _ c.in_err-two.ensures.measured))

pub returns-in-Equal-clause-ok : goal.returns-in-Equal-clause-ok
returns-in-Equal-clause-ok g c =
    let e = rw (c.tag.ensures, c.tag-2.ensures) at c.header_cmp.ensures in
    let b = by_value (g.T.Tagged.tag_of c.args.self.now) (g.T.Tagged.tag_of c.args.other.now) c.in_ok-one.one.value c.in_ok-two.two.value (g.T.EncodeValue.content c.args.self.now) (g.T.EncodeValue.content c.args.other.now) c.header_cmp.result e c.in_ok-one.ensures.measured c.in_ok-two.ensures.measured in
    answers c.value_cmp.result _ _ (g.met.T.ContentOrd.ordered c.args.self.now c.args.other.now ∙ (rw c.in-Equal.is at b)) c.value_cmp.ensures.ok

pub returns-in_default : goal.returns-in_default
returns-in_default g c =
    let e = rw (c.tag.ensures, c.tag-2.ensures) at c.header_cmp.ensures in
    let b = by_value (g.T.Tagged.tag_of c.args.self.now) (g.T.Tagged.tag_of c.args.other.now) c.in_ok-one.one.value c.in_ok-two.two.value (g.T.EncodeValue.content c.args.self.now) (g.T.EncodeValue.content c.args.other.now) c.header_cmp.result e c.in_ok-one.ensures.measured c.in_ok-two.ensures.measured in
    record { ok = decides c.header_cmp.result _ c.in_default.not-Equal ∙ b; err = tt }

use Rattle.std.proofs.lemmas.Result.{err_from_is_err_and}
use Rattle.asn1_core.specs.WritingLaws.{refused_el, measured_el}
use Rattle.der_core.proofs.encode.AnyEncode.encoded_len.Goals as goal

pub returns-in_err-n-clause-measured : goal.returns-in_err-n-clause-measured
returns-in_err-n-clause-measured g c =
    let p = err_from_is_err_and c.from_residual.result c.from_residual.ensures.1 in
    rw (p.1, p.2) (refused_el _ (g.T.Tagged.tag_of c.args.self.now) (g.T.EncodeValue.content c.args.self.now) _ c.in_err-n.ensures.measured)

pub returns-clause-measured : goal.returns-clause-measured
returns-clause-measured g c = measured_el _ (g.T.Tagged.tag_of c.args.self.now) c.in_ok-n.n.value (g.T.EncodeValue.content c.args.self.now) c.element_len.result c.in_ok-n.ensures.measured c.element_len.ensures

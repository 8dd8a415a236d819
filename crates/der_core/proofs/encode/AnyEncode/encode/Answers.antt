use Rattle.std.proofs.Common.{inr}
use Rattle.std.proofs.lemmas.Result.{err_from_is_err_and}
use Rattle.asn1_core.specs.WritingLaws.{refused_el, stopped_before, overlong_el, header_stopped, value_written, short_el, held}
use Rattle.der_core.proofs.encode.AnyEncode.encode.Goals as goal

pub returns-in_err-n-clause-written : goal.returns-in_err-n-clause-written
returns-in_err-n-clause-written g c =
    let p = err_from_is_err_and c.from_residual.result c.from_residual.ensures.1 in
    rw (p.1, p.2) (stopped_before _ _ _ _ _ _ (refused_el _ (g.T.Tagged.tag_of c.args.self.now) (g.T.EncodeValue.content c.args.self.now) _ c.in_err-n.ensures.measured))

pub returns-in_err-element_len-clause-written : goal.returns-in_err-element_len-clause-written
returns-in_err-element_len-clause-written g c =
    let p = err_from_is_err_and c.from_residual-in_err-element_len.result c.from_residual-in_err-element_len.ensures.1 in
    let f = c.in_err-element_len.ensures in
    rw (p.1, p.2) (stopped_before _ _ _ _ _ _ (inr (f.0, overlong_el (g.T.Tagged.tag_of c.args.self.now) c.in_ok-n.n.value (g.T.EncodeValue.content c.args.self.now) c.in_ok-n.ensures.measured f.1)))

pub returns-in_err-write_header-clause-written : goal.returns-in_err-write_header-clause-written
returns-in_err-write_header-clause-written g c =
    let p = err_from_is_err_and c.from_residual-in_err-write_header.result c.from_residual-in_err-write_header.ensures.1 in
    rw (p.1, p.2) (header_stopped g.W.Writer.sink (g.T.Tagged.tag_of c.args.self.now) c.tag.result.first c.in_ok-n.n.value (g.T.EncodeValue.content c.args.self.now) c.args.w.now _ c.args.w.now _ c.tag.ensures c.in_ok-n.ensures.measured _ c.in_err-write_header.ensures)

pub returns-clause-written : goal.returns-clause-written
returns-clause-written g c = value_written g.W.Writer.sink (g.T.Tagged.tag_of c.args.self.now) c.tag.result.first c.in_ok-n.n.value (g.T.EncodeValue.content c.args.self.now) c.args.w.now _ _ _ c.tag.ensures c.in_ok-n.ensures.measured c.in_ok-write_header.ensures _ c.encode_value.ensures.written

pub returns-clause-short : goal.returns-clause-short
returns-clause-short g c = held _ c.encode_value.result (short_el (g.T.Tagged.tag_of c.args.self.now) c.in_ok-n.n.value (g.T.EncodeValue.content c.args.self.now) c.in_ok-n.ensures.measured c.in_ok-element_len.ensures.1)

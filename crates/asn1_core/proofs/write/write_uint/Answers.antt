use Rattle.std.proofs.lemmas.Result.{err_from_is_err_and}
use Rattle.asn1_core.specs.Der.{shortest}
use Rattle.asn1_core.specs.WritingLaws.{element_stopped, element_written}
use Rattle.asn1_core.proofs.write.write_uint.Goals as goal

pub returns-in_err-write_header : goal.returns-in_err-write_header
returns-in_err-write_header g c =
    let p = err_from_is_err_and c.from_residual.result c.from_residual.ensures.1 in
    rw (p.1, p.2) (element_stopped g.W.Writer.sink _ _ (shortest c.args.n) c.args.w.now _ c.args.w.now _ _ c.uint_value_len.ensures _ c.in_err-write_header.ensures)

pub returns : goal.returns
returns g c = element_written g.W.Writer.sink _ _ (shortest c.args.n) c.args.w.now _ _ _ _ c.uint_value_len.ensures c.in_ok-write_header.ensures _ c.write_uint_value.ensures

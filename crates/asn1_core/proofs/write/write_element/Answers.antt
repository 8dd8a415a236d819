use Rattle.std.proofs.Common.{arith, inr, refl}
use Rattle.std.proofs.lemmas.Result.{err_from_is_err_and}
use Rattle.asn1_core.specs.WritingLaws.{stopped_before, overlong_el, el_size, element_stopped, element_written, short_el, held}
use Rattle.asn1_core.proofs.write.write_element.Goals as goal

pub returns-then-value-gt4294967295-clause-writes : goal.returns-then-value-gt4294967295-clause-writes
returns-then-value-gt4294967295-clause-writes g c =
    stopped_before _ _ _ _ _ _ (inr (refl, omega (arith, el_size c.args.tag.first c.args.value.now, c.if-value-gt4294967295.true)))

pub returns-in_err-element_len-clause-writes : goal.returns-in_err-element_len-clause-writes
returns-in_err-element_len-clause-writes g c =
    let p = err_from_is_err_and c.from_residual.result c.from_residual.ensures.1 in
    let f = c.in_err-element_len.ensures in
    rw (p.1, p.2) (stopped_before _ _ _ _ _ _ (inr (f.0, overlong_el c.args.tag.first c.new-length.result.value c.args.value.now c.new-length.ensures f.1)))

pub returns-in_err-write_header-clause-writes : goal.returns-in_err-write_header-clause-writes
returns-in_err-write_header-clause-writes g c =
    let p = err_from_is_err_and c.from_residual-in_err-write_header.result c.from_residual-in_err-write_header.ensures.1 in
    rw (p.1, p.2) (element_stopped g.W.Writer.sink c.args.tag.first c.new-length.result.value c.args.value.now c.args.w.now _ c.args.w.now _ _ c.new-length.ensures _ c.in_err-write_header.ensures)

pub returns-clause-writes : goal.returns-clause-writes
returns-clause-writes g c = element_written g.W.Writer.sink c.args.tag.first c.new-length.result.value c.args.value.now c.args.w.now _ _ _ _ c.new-length.ensures c.in_ok-write_header.ensures _ c.write.ensures

pub returns-clause-short : goal.returns-clause-short
returns-clause-short g c = held _ c.write.result (short_el c.args.tag.first c.new-length.result.value c.args.value.now c.new-length.ensures c.in_ok-element_len.ensures.1)

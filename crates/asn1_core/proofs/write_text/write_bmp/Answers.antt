use Rattle.std.proofs.Common.{arith, inr}
use Rattle.std.proofs.lemmas.Result.{err_from_is_err_and}
use Rattle.asn1_core.specs.Unicode.{text_units}
use Rattle.asn1_core.specs.WritingLaws.{stopped_before, overlong_el, el_size, element_stopped, element_written, short_el, held}
use Rattle.asn1_core.proofs.TextLaws.{bmp_written}
use Rattle.asn1_core.proofs.write_text.write_bmp.Goals as goal

pub returns-in_err-length-clause-writes : goal.returns-in_err-length-clause-writes
returns-in_err-length-clause-writes g c =
    let p = err_from_is_err_and c.from_residual.result c.from_residual.ensures.1 in
    let f = c.in_err-length.ensures in
    rw (p.1, p.2) (stopped_before _ _ _ _ _ _ (inr (f.0, omega (arith, el_size 0x1e (text_units c.args.text.now), f.1))))

pub returns-in_err-element_len-clause-writes : goal.returns-in_err-element_len-clause-writes
returns-in_err-element_len-clause-writes g c =
    let p = err_from_is_err_and c.from_residual-in_err-element_len.result c.from_residual-in_err-element_len.ensures.1 in
    let f = c.in_err-element_len.ensures in
    rw (p.1, p.2) (stopped_before _ _ _ _ _ _ (inr (f.0, overlong_el 0x1e c.in_ok-length.length.value (text_units c.args.text.now) c.in_ok-length.ensures f.1)))

pub returns-in_err-write_header-clause-writes : goal.returns-in_err-write_header-clause-writes
returns-in_err-write_header-clause-writes g c =
    let p = err_from_is_err_and c.from_residual-in_err-write_header.result c.from_residual-in_err-write_header.ensures.1 in
    rw (p.1, p.2) (element_stopped g.W.Writer.sink 0x1e c.in_ok-length.length.value (text_units c.args.text.now) c.args.w.now _ c.args.w.now _ _ c.in_ok-length.ensures _ c.in_err-write_header.ensures)

pub returns-clause-writes : goal.returns-clause-writes
returns-clause-writes g c = element_written g.W.Writer.sink 0x1e c.in_ok-length.length.value (text_units c.args.text.now) c.args.w.now _ _ _ _ c.in_ok-length.ensures c.in_ok-write_header.ensures _ c.write_units.ensures

pub returns-clause-short : goal.returns-clause-short
returns-clause-short g c = held _ c.write_units.result (short_el 0x1e c.in_ok-length.length.value (text_units c.args.text.now) c.in_ok-length.ensures c.in_ok-element_len.ensures.1)

pub returns-in_err-length-clause-text : goal.returns-in_err-length-clause-text
returns-in_err-length-clause-text g c = bmp_written c.args.text.now c.utf8.text

pub returns-in_err-element_len-clause-text : goal.returns-in_err-element_len-clause-text
returns-in_err-element_len-clause-text g c = bmp_written c.args.text.now c.utf8.text

pub returns-in_err-write_header-clause-text : goal.returns-in_err-write_header-clause-text
returns-in_err-write_header-clause-text g c = bmp_written c.args.text.now c.utf8.text

pub returns-clause-text : goal.returns-clause-text
returns-clause-text g c = bmp_written c.args.text.now c.utf8.text

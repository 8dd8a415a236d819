use Rattle.std.proofs.Common.{◌∙◌, [], inr}
use Rattle.std.proofs.lemmas.Result.{err_from_is_err_and}
use Rattle.asn1_core.specs.WritingLaws.{refused_el}
use Rattle.der_core.proofs.Refusals.{refused, overlong}
use Rattle.der_core.proofs.any.Any.encode_from.Goals as goal

pub returns-in_err-length-clause-err : goal.returns-in_err-length-clause-err
returns-in_err-length-clause-err g c =
    let p = err_from_is_err_and c.from_residual.result c.from_residual.ensures.1 in
    rw (p.1, p.2) (refused _ _ _ (refused_el _ (g.T.Tagged.tag_of c.args.v.now) (g.T.EncodeValue.content c.args.v.now) _ c.in_err-length.ensures.measured))

pub returns-in_err-checked_len-clause-err : goal.returns-in_err-checked_len-clause-err
returns-in_err-checked_len-clause-err g c =
    let p = err_from_is_err_and c.from_residual-in_err-checked_len.result c.from_residual-in_err-checked_len.ensures.1 in
    let f = c.in_err-checked_len.ensures in
    rw (p.1, p.2) (refused _ _ _ (inr (f.0, overlong (g.T.Tagged.tag_of c.args.v.now) c.in_ok-length.length.value (g.T.EncodeValue.content c.args.v.now) c.in_ok-length.ensures.measured f.1)))

pub invariant_of-result : goal.invariant_of-result
invariant_of-result g c =
    let e = c.into_octets.ensures ∙ c.in_ok-encode_value.ensures.written.adds [] c.new-w.ensures in
    record { short = rw (e, ← c.in_ok-length.ensures.measured) (c.in_ok-checked_len.ensures.1) }

pub returns-clause-ok : goal.returns-clause-ok
returns-clause-ok g c = (c.tag.ensures, c.into_octets.ensures ∙ c.in_ok-encode_value.ensures.written.adds [] c.new-w.ensures)

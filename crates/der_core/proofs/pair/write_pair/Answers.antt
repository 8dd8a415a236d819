use Rattle.std.proofs.Common.{arith, length-append, inl, inr}
use Rattle.std.proofs.lemmas.Result.{err_from_is_err_and}
use Rattle.asn1_core.specs.WritingLaws.{stopped_before, stopped_first, writes_then}
use Rattle.der_core.proofs.pair.write_pair.Goals as goal

pub returns-in_err-pair_len-clause-written : goal.returns-in_err-pair_len-clause-written
returns-in_err-pair_len-clause-written g c =
    let p = err_from_is_err_and c.from_residual.result c.from_residual.ensures.1 in
    rw (p.1, p.2) (stopped_before _ _ _ _ _ _ c.in_err-pair_len.ensures.measured)

pub returns-in_err-encode-clause-written : goal.returns-in_err-encode-clause-written
returns-in_err-encode-clause-written g c =
    let p = err_from_is_err_and c.from_residual-in_err-encode.result c.from_residual-in_err-encode.ensures.1 in
    let a = g.A.Encode.canon c.args.first.now in
    let b = g.B.Encode.canon c.args.second.now in
    rw (p.1, p.2) (stopped_first g.W.Writer.sink a b c.args.w.now c.encode.new.w c.encode.new.w _ _ _ _ _ (λ h. inl h) (λ h. omega (arith, length-append a b, h)) c.in_err-encode.ensures.written)

pub returns-clause-written : goal.returns-clause-written
returns-clause-written g c =
    let a = g.A.Encode.canon c.args.first.now in
    let b = g.B.Encode.canon c.args.second.now in
    writes_then g.W.Writer.sink a b c.args.w.now _ _ _ _ _ _ (λ h. inr h) (λ h. omega (arith, length-append a b, h)) c.in_ok-encode.ensures.written _ c.encode-2.ensures.written

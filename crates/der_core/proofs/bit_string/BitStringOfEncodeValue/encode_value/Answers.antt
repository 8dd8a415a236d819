use Rattle.std.proofs.Common.{[], ◌∷◌}
use Rattle.std.proofs.lemmas.Result.{err_from_is_err_and}
use Rattle.asn1_core.specs.WritingLaws.{stopped_first, writes_then}
use Rattle.der_core.proofs.bit_string.BitStringOfEncodeValue.encode_value.Goals as goal

pub returns-in_err-write-clause-written : goal.returns-in_err-write-clause-written
returns-in_err-write-clause-written g c =
    let p = err_from_is_err_and c.from_residual.result c.from_residual.ensures.1 in
    rw (p.1, p.2) (stopped_first g.W.Writer.sink (c.args.self.now.unused_bits ∷ []) (g.S.AsSlice.items c.args.self.now.octets) c.args.w.now c.write.new.self c.write.new.self _ _ _ _ _ (λ h. absurd h) (λ h. absurd h) c.in_err-write.ensures)

pub returns-clause-written : goal.returns-clause-written
returns-clause-written g c = writes_then g.W.Writer.sink (c.args.self.now.unused_bits ∷ []) (g.S.AsSlice.items c.args.self.now.octets) c.args.w.now _ _ _ _ _ _ (λ h. absurd h) (λ h. absurd h) c.in_ok-write.ensures _ (rw c.as_slice.ensures at c.write-2.ensures)

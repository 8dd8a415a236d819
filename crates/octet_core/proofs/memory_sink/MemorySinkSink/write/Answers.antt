use Rattle.std.proofs.Common.{◌≡◌, arith}
use Rattle.std.specs.Prelude.{Result, Err}
use Rattle.std.specs.Result.{IsOk}
use Rattle.std.proofs.lemmas.List.{length-take}
use Rattle.octet_core.proofs.memory_sink.MemorySinkSink.write.Goals as goal

not_both : {T E : Type 0} (r : Result T E) (e : E) → r ≡ Err e → IsOk r → ⊥
not_both r e err ok = cc

-- The room has its memory already, so that it is not refused.
pub returns-in-Err : goal.returns-in-Err
returns-in-Err c =
    let taken = length-take c.min-count.result c.args.piece.now in
    absurd (not_both _ _ c.in-Err.is (c.extend_from_slice.ensures.succeeds (omega (arith, c.self.invariant, c.min-count.ensures, taken))))

use Rattle.std.proofs.Common.{arith, ◌∙◌}
use Rattle.frame.proofs.Written.{on_err, item_part}
use Rattle.frame.proofs.due_text.write_texts.Goals as goal

pub returns-in_err-write_piece-clause-part : goal.returns-in_err-write_piece-clause-part
returns-in_err-write_piece-clause-part g c =
    on_err _ (item_part _ _ _ (λ line. line) c.args.lines.now c.loop-line.line-index c.line-item.result _ (omega arith) c.line-item.is (c.as_bytes.ensures.value ∙ c.as_str.ensures) c.loop-line.invariant.taken c.in_err-write_piece.ensures.part)

use Rattle.std.proofs.Common.{◌≡◌, ◌≤◌, ◌∙◌, ◌+◌, ◌-◌, List, ℕ, length, arith, subst, sym, ap}
use Rattle.std.specs.Prelude.{OnErr, OnOk}
use Rattle.std.specs.Io.KnownBytes.{Appends}
use Rattle.frame.specs.DueText.{AppendsPart}
use Rattle.frame.proofs.Encoded.{named_line}
use Rattle.frame.proofs.due_text.write_error.Goals as goal

pub returns : goal.returns
returns g c =
    let said = c.copy_from_slice-2.ensures.after in
    let n = length c.as_bytes-name.result.now in
    let size : n ≡ length c.copy_from_slice-2.new.self = sym (ap length said) in
    let short : length c.copy_from_slice-2.new.self ≤ 16 = omega (arith, ap length c.as_bytes-name.ensures.value, c.name.ensures.short, size) in
    let line = named_line c.copy_from_slice.new.self c.copy_from_slice-2.new.self _ (7 + n - 7) c.copy_from_slice.ensures.after (said ∙ c.as_bytes-name.ensures.value ∙ c.name.ensures.is) short (omega (arith, size)) n size in
    record {
      count = c.write_piece.ensures.count;
      whole = subst (λ (t : List ℕ). OnOk c.write_piece.result (Appends (g.O.Sink.written c.args.output.now) (g.O.Sink.written c.write_piece.new.output) t)) line c.write_piece.ensures.whole;
      part = subst (λ (t : List ℕ). OnErr c.write_piece.result (AppendsPart (g.O.Sink.written c.args.output.now) (g.O.Sink.written c.write_piece.new.output) t)) line c.write_piece.ensures.part;
      cause = c.write_piece.ensures.cause;
      no_fault = c.write_piece.ensures.no_fault;
    }

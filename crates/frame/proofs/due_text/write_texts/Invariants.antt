use Rattle.std.proofs.Common.{◌≡◌, take}
use Rattle.std.specs.Io.KnownBytes.{Appends}
use Rattle.frame.specs.DueText.{joined}
use Rattle.frame.proofs.due_text.write_texts.Given as goal

abbrev pub invariant-loop-line : goal.invariant-loop-line
invariant-loop-line g l = record {
  kept : g.O.Sink.faults l.output ≡ g.O.Sink.faults l.initial.output;
  taken : Appends (g.O.Sink.written l.initial.output) (g.O.Sink.written l.output) (joined (take l.line-index l.lines));
}

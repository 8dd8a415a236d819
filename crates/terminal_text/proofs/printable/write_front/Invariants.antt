use Rattle.std.proofs.Common.{◌≡◌, drop, take}
use Rattle.std.specs.Fmt.{HasWritten, IsPlainFormatter}
use Rattle.std.specs.List.{flat_map}
use Rattle.std.specs.Str.{IsUtf8, chars}
use Rattle.std.specs.Str.Iter.{chars_rest}
use Rattle.terminal_text.specs.Printable.{printed_char}
use Rattle.terminal_text.proofs.printable.write_front.Given as goal

abbrev pub invariant-loop-place : goal.invariant-loop-place
invariant-loop-place g l = record {
  utf8 : IsUtf8 (chars_rest l.rest);
  rest : chars (chars_rest l.rest) ≡ drop l._place (chars l.text);
  wrote : IsPlainFormatter l.initial.f → HasWritten g.W.Write.write_str_gives l.initial.f (flat_map (printed_char l.in_quotes) (take l._place (chars l.text))) l.f;
}

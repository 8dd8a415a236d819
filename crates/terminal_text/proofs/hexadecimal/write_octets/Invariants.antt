use Rattle.std.proofs.Common.{take}
use Rattle.std.specs.Fmt.{HasWritten, IsPlainFormatter}
use Rattle.std.specs.List.{flat_map}
use Rattle.terminal_text.specs.Hexadecimal.{hexadecimal_octet}
use Rattle.terminal_text.proofs.hexadecimal.write_octets.Given as goal

abbrev pub invariant-loop-octet : goal.invariant-loop-octet
invariant-loop-octet g l =
    IsPlainFormatter l.initial.f → HasWritten g.W.Write.write_str_gives l.initial.f (flat_map hexadecimal_octet (take l.octet-index l.octets)) l.f

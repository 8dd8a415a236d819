use Rattle.std.proofs.Common.{◌≡◌, ◌++◌, length, map}
use Rattle.std.specs.List.{flat_map}
use Rattle.passdb_core.specs.Asked.{command_in}
use Rattle.passdb_core.specs.Reading.{AreCommands, command_line}
use Rattle.passdb_core.proofs.script.read_script.Given as goal

abbrev pub invariant-loop-rest : goal.invariant-loop-rest
invariant-loop-rest l = record {
  commands : AreCommands (map command_in l.commands);
  spelled : l.text ≡ flat_map command_line (map command_in l.commands) ++ l.rest;
}

abbrev pub decreases-loop-rest : goal.decreases-loop-rest
decreases-loop-rest l = length l.rest

use Rattle.std.proofs.Common.{◌≡◌, ◌≤◌, ◌+◌, ◌*◌, map, take}
use Rattle.passdb_core.specs.Asked.{command_in}
use Rattle.passdb_core.specs.Calls.{Runs}
use Rattle.passdb_core.specs.Entry.{rounds_limit}
use Rattle.passdb_core.proofs.database.Db.obey_all.Given as goal

abbrev pub invariant-loop-command : goal.invariant-loop-command
invariant-loop-command g l = record {
  count : g.D.Draw.faults l.draw ≡ g.D.Draw.faults l.fn.draw;
  rounds : l.self.rounds ≡ l.fn.self.rounds;
  least : l.fn.steps ≤ l.steps;
  most : l.steps ≤ l.fn.steps + 3 * rounds_limit * l.command-index;
  done : Runs l.fn.self (map command_in (take l.command-index l.commands)) (g.D.Draw.left l.fn.draw) (g.D.Draw.left l.draw) l.fn.steps l.steps l.replies l.self.entries;
}

use Rattle.std.proofs.Common.{◌≡◌, ◌≤◌, ◌-◌, vec_len}
use Rattle.std.specs.Io.KnownBytes.{Consumes}
use Rattle.frame.specs.Input.{input_limit}
use Rattle.frame.proofs.input.read_input.Given as goal

abbrev pub invariant-loop-count : goal.invariant-loop-count
invariant-loop-count g l = record {
  unfailed : g.I.Source.faults l.input ≡ g.I.Source.faults l.initial.input;
  taken : Consumes (g.I.Source.left l.initial.input) (g.I.Source.left l.input) l.octets.items;
  fits : vec_len l.octets ≤ input_limit;
}

abbrev pub decreases-loop-count : goal.decreases-loop-count
decreases-loop-count g l = input_limit - vec_len l.octets

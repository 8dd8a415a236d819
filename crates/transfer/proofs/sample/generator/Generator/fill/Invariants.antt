use Rattle.std.proofs.Common.{length, take, ◌-◌, ◌≡◌, ◌++◌}
use Rattle.transfer.specs.Sample.{octets_behind, state_behind}
use Rattle.transfer.proofs.sample.generator.Generator.fill.Given as goal

abbrev pub invariant-loop-filled : goal.invariant-loop-filled
invariant-loop-filled l = record {
  long : length l.out ≡ length l.initial.out;
  octets : take l.filled l.out ++ octets_behind l.self.state (length l.initial.out - l.filled) ≡ octets_behind l.initial.self.state (length l.initial.out);
  state : state_behind l.self.state (length l.initial.out - l.filled) ≡ state_behind l.initial.self.state (length l.initial.out);
}

abbrev pub decreases-loop-filled : goal.decreases-loop-filled
decreases-loop-filled l = length l.initial.out - l.filled

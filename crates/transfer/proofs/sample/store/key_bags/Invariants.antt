use Rattle.std.proofs.Common.{◌≡◌}
use Rattle.transfer.specs.Sample.{behind_keys, starts}
use Rattle.transfer.proofs.Generated.{Completes}
use Rattle.transfer.proofs.sample.store.key_bags.Given as goal

abbrev pub invariant-loop-left : goal.invariant-loop-left
invariant-loop-left l = record {
  made : Completes l.bags (starts l.generator.state l.left) (starts l.initial.generator.state l.keys);
  state : behind_keys l.generator.state l.left ≡ behind_keys l.initial.generator.state l.keys;
}

abbrev pub decreases-loop-left : goal.decreases-loop-left
decreases-loop-left l = l.left

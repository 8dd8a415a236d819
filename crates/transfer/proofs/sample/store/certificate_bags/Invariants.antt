use Rattle.std.proofs.Common.{◌≡◌, ◌++◌}
use Rattle.transfer.specs.Sample.{certificate_bags, starts}
use Rattle.transfer.proofs.sample.store.certificate_bags.Given as goal

abbrev pub invariant-loop-left : goal.invariant-loop-left
invariant-loop-left l = record {
  made : l.bags ++ certificate_bags (starts l.generator.state l.left) ≡ certificate_bags (starts l.seed l.keys);
}

abbrev pub decreases-loop-left : goal.decreases-loop-left
decreases-loop-left l = l.left

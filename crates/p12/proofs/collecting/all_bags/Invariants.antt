use Rattle.std.proofs.Common.{take}
use Rattle.p12.specs.Collected.{HoldAll}
use Rattle.p12.proofs.collecting.all_bags.Given as goal

abbrev pub invariant-loop-content : goal.invariant-loop-content
invariant-loop-content l = record {
  done : HoldAll l.password (take l.content-index l.contents) l.bags;
}

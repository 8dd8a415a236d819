use Rattle.std.proofs.Common.{◌≡◌, ◌++◌}
use Rattle.p12.proofs.collecting.append.Given as goal

abbrev pub invariant-loop-bag : goal.invariant-loop-bag
invariant-loop-bag l = record {
  done : l.bags ≡ l.fn.bags ++ l.yielded;
}

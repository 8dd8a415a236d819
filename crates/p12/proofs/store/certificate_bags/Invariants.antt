use Rattle.std.proofs.Common.{◌≡◌, [], ◌∷◌, map, take}
use Rattle.p12.specs.Building.{certificate_bag, own_attributes, seen_entry}
use Rattle.p12.proofs.store.certificate_bags.Given as goal

abbrev pub invariant-loop-other : goal.invariant-loop-other
invariant-loop-other l = record {
  all : l.other-items ≡ l.entry.others.now;
  done : l.bags ≡ certificate_bag (own_attributes (seen_entry l.entry)) l.entry.certificate.now ∷ map (certificate_bag []) (take l.other-index l.other-items);
}

use Rattle.std.proofs.Common.{◌≡◌, ◌+◌, length}
use Rattle.p12.specs.Collected.{certificates_among}
use Rattle.pkcs12_inspection.specs.Listed.{others_among}
use Rattle.pkcs12_inspection.proofs.listing.Listing.add_bags.Given as goal

abbrev pub invariant-loop-bag : goal.invariant-loop-bag
invariant-loop-bag l = record {
  certificates : length l.self.certificates + length (certificates_among l.bags.left) ≡ length l.fn.self.certificates + length (certificates_among l.initial.bags.left);
  others : length l.self.others + length (others_among l.bags.left) ≡ length l.fn.self.others + length (others_among l.initial.bags.left);
}

abbrev pub decreases-loop-bag : goal.decreases-loop-bag
decreases-loop-bag l = length l.bags.left

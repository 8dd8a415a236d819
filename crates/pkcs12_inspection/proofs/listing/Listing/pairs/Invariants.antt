use Rattle.std.proofs.Common.{◌≡◌, map, take}
use Rattle.pkcs12_inspection.specs.Pairs.{pair_of}
use Rattle.pkcs12_inspection.proofs.listing.Listing.pairs.Given as goal

abbrev pub invariant-loop-key : goal.invariant-loop-key
invariant-loop-key l = l.pairs.items ≡ map (pair_of l.self.certificates) (take l.key-index l.key-items)

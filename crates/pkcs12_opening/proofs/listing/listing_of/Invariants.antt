use Rattle.std.proofs.Common.{◌≡◌, length, take}
use Rattle.pkcs12_inspection.specs.Listed.{others_in}
use Rattle.transfer.specs.Opening.{all_certificates}
use Rattle.pkcs12_opening.proofs.listing.listing_of.Given as goal

abbrev pub invariant-loop-index : goal.invariant-loop-index
invariant-loop-index l = record {
  certificates : length l.found.certificates ≡ length (all_certificates (take l.index l.opened.contents));
  others : length l.found.others ≡ length (others_in (take l.index l.opened.contents));
}

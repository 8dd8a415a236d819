use Rattle.std.proofs.Common.{◌≡◌, ℕ, List, position, take}
use Rattle.std.specs.Cmp.Lexicographic.{slice_cmp}
use Rattle.std.specs.BTreeMap as tree
use Rattle.std.specs.Ordering.{nat_cmp}
use Rattle.pkcs12_inspection.specs.Pairs.{has_key_id}
use Rattle.pkcs12_inspection.proofs.listing.first_places.Given as goal

abbrev pub invariant-loop-place : goal.invariant-loop-place
invariant-loop-place l = (id : List ℕ) → tree.get_by (λ k. slice_cmp nat_cmp id k.now) l.places ≡ position (has_key_id id) (take l.place l.labels)

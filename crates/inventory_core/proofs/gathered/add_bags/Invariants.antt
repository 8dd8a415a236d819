use Rattle.std.proofs.Common.{◌≡◌, ◌++◌, length}
use Rattle.std.specs.List.{flat_map}
use Rattle.inventory_core.specs.Gathering.{certificate_part}
use Rattle.inventory_core.specs.Table.{certificate_id, key_id}
use Rattle.inventory_core.specs.View.{seen_all}
use Rattle.inventory_core.proofs.gathered.add_bags.Given as goal

abbrev pub invariant-loop-bag : goal.invariant-loop-bag
invariant-loop-bag l = record {
  certificates : seen_all l.gathered.certificates ++ flat_map certificate_part l.bags.left
      ≡ seen_all l.fn.gathered.certificates ++ flat_map certificate_part l.initial.bags.left;
  certificate_ids : l.gathered.certificate_ids ++ flat_map certificate_id l.bags.left
      ≡ l.fn.gathered.certificate_ids ++ flat_map certificate_id l.initial.bags.left;
  key_ids : l.gathered.key_ids ++ flat_map key_id l.bags.left
      ≡ l.fn.gathered.key_ids ++ flat_map key_id l.initial.bags.left;
}

abbrev pub decreases-loop-bag : goal.decreases-loop-bag
decreases-loop-bag l = length l.bags.left

use Rattle.std.proofs.Common.{◌≡◌, take}
use Rattle.std.specs.List.{flat_map}
use Rattle.inventory_core.specs.Gathering.{certificate_part}
use Rattle.inventory_core.specs.Table.{certificate_ids, key_ids}
use Rattle.inventory_core.specs.View.{seen_all}
use Rattle.inventory_core.proofs.gathered.gather.Given as goal

abbrev pub invariant-loop-index : goal.invariant-loop-index
invariant-loop-index l = record {
  certificates : seen_all l.gathered.certificates ≡ flat_map (λ gs. flat_map certificate_part gs) (take l.index l.opened.contents);
  certificate_ids : l.gathered.certificate_ids ≡ certificate_ids (take l.index l.opened.contents);
  key_ids : l.gathered.key_ids ≡ key_ids (take l.index l.opened.contents);
}

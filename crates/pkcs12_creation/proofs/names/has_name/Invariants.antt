use Rattle.std.proofs.Common.{◌≡◌, false, take}
use Rattle.std.specs.List.{list_any}
use Rattle.pkcs12_creation.specs.Names.{has_name}
use Rattle.pkcs12_creation.proofs.names.has_name.Given as goal

abbrev pub invariant-loop-pair : goal.invariant-loop-pair
invariant-loop-pair l = list_any (has_name l.lowered) (take l.pair-index l.pairs) ≡ false

use Rattle.std.proofs.Common.{◌≡◌, ◌≤◌, ◌++◌, length, map, take}
use Rattle.x509_names.specs.Names.{attribute_text, last_first, seen_attribute}
use Rattle.x509_names.proofs.name.push_relative.Given as goal

abbrev pub invariant-loop-left : goal.invariant-loop-left
invariant-loop-left l =
    (l.left ≤ length l.attributes)
    × (l.printed ++ last_first 43 attribute_text (map seen_attribute (take l.left l.attributes)) ≡ l.initial.printed ++ last_first 43 attribute_text (map seen_attribute l.attributes))

abbrev pub decreases-loop-left : goal.decreases-loop-left
decreases-loop-left l = l.left

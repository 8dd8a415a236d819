use Rattle.std.proofs.Common.{◌≡◌, ◌≤◌, ◌++◌, length, map, take}
use Rattle.x509_names.specs.Names.{last_first, relative_text, seen_attribute}
use Rattle.x509_names.proofs.name.push_name.Given as goal

abbrev pub invariant-loop-left : goal.invariant-loop-left
invariant-loop-left l =
    (l.left ≤ length l.names)
    × (l.printed ++ last_first 44 relative_text (map (map seen_attribute) (take l.left l.names)) ≡ l.initial.printed ++ last_first 44 relative_text (map (map seen_attribute) l.names))

abbrev pub decreases-loop-left : goal.decreases-loop-left
decreases-loop-left l = l.left

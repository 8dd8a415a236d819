use Rattle.std.proofs.Common.{◌≡◌, ◌++◌, take}
use Rattle.std.specs.List.{flat_map}
use Rattle.frame.specs.DueText.{digits_line, joined}
use Rattle.frame.proofs.due_text.add_lines.Given as goal

abbrev pub invariant-loop-item : goal.invariant-loop-item
invariant-loop-item l = record {
  made : joined l.lines ≡ joined l.initial.lines ++ flat_map (digits_line l.label) (take l.item-index l.items);
}

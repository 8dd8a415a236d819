use Rattle.std.proofs.Common.{◌≡◌, ◌++◌, List, ℕ, take}
use Rattle.inventory_core.specs.Lines.{AreLines, KeyLine}
use Rattle.inventory_core.specs.View.{seen_all}
use Rattle.inventory_core.proofs.table_lines.add_key_lines.Given as goal

abbrev pub invariant-loop-i : goal.invariant-loop-i
invariant-loop-i l = (more : List (List ℕ)) × (l.lines ≡ l.fn.lines ++ more) × AreLines (KeyLine (seen_all l.index.certificates.now) l.certificate_ids) 0 (take l.i l.key_ids) more

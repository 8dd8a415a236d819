use Rattle.std.proofs.Common.{◌++◌, List, ℕ, take, ◌≡◌}
use Rattle.std.specs.String.{string_bytes}
use Rattle.frame.specs.DueText.{joined}
use Rattle.inventory_core.specs.Lines.{AreLines, KeyLine}
use Rattle.inventory_core.specs.Sheet.{Holds}
use Rattle.inventory_core.specs.View.{seen_all}
use Rattle.inventory_core.proofs.table_lines.write_keys.Given as goal

abbrev pub invariant-loop-i : goal.invariant-loop-i
invariant-loop-i l = (lines : List (List ℕ)) × AreLines (KeyLine (seen_all l.index.certificates.now) l.certificate_ids) 0 (take l.i l.key_ids) lines
    × ((all : List ℕ) → Holds l.fn.sheet.length l.fn.sheet.room (string_bytes l.fn.sheet.text) all → Holds l.sheet.length l.sheet.room (string_bytes l.sheet.text) (all ++ joined lines))
    × (l.sheet.room ≡ l.fn.sheet.room)

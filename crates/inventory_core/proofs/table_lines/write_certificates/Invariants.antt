use Rattle.std.proofs.Common.{◌++◌, List, ℕ, take, ◌≡◌}
use Rattle.std.specs.String.{string_bytes}
use Rattle.frame.specs.DueText.{joined}
use Rattle.inventory_core.specs.Lines.{AreLines, CertificateLine}
use Rattle.inventory_core.specs.Sheet.{Holds}
use Rattle.inventory_core.specs.View.{seen_all}
use Rattle.inventory_core.proofs.table_lines.write_certificates.Given as goal

abbrev pub invariant-loop-j : goal.invariant-loop-j
invariant-loop-j l = (lines : List (List ℕ)) × AreLines (CertificateLine (seen_all l.index.certificates.now)) 0 (take l.j (seen_all l.index.certificates.now)) lines
    × ((all : List ℕ) → Holds l.fn.sheet.length l.fn.sheet.room (string_bytes l.fn.sheet.text) all → Holds l.sheet.length l.sheet.room (string_bytes l.sheet.text) (all ++ joined lines))
    × (l.sheet.room ≡ l.fn.sheet.room)

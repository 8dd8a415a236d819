use Rattle.std.proofs.Common.{take}
use Rattle.inventory_core.specs.Lines.{AreLines, CertificateLine}
use Rattle.inventory_core.specs.View.{seen_all}
use Rattle.inventory_core.proofs.table_lines.certificate_lines.Given as goal

abbrev pub invariant-loop-j : goal.invariant-loop-j
invariant-loop-j l = AreLines (CertificateLine (seen_all l.index.certificates.now)) 0 (take l.j (seen_all l.index.certificates.now)) l.lines

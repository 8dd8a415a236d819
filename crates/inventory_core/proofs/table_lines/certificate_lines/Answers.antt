use Rattle.std.proofs.Common.{ap, arith, get_or, length, subst, sym, take, ◌+◌, ◌∙◌}
use Rattle.asn1_core.specs.Texts.{seen_option}
use Rattle.inventory_core.specs.Lines.{AreLines, CertificateLine}
use Rattle.inventory_core.specs.View.{seen_all, seen_certificate}
use Rattle.inventory_core.proofs.LineLists.{next_seen}
use Rattle.inventory_core.proofs.table_lines.certificate_lines.Goals as goal

pub loop-j-preserved : goal.loop-j-preserved
loop-j-preserved c =
    let cs = c.args.index.now.certificates.now in
    let x = c.index-certificates-j.result in
    let same = c.certificates-certificates.ensures in
    subst (λ lines. AreLines (CertificateLine (seen_all cs)) 0 (take (c.loop-j.j + 1) (seen_all cs)) lines) (sym c.in_ok-push.ensures.ok)
    (next_seen (seen_option seen_certificate) (CertificateLine (seen_all cs)) cs c.loop-j.j x c.loop-j.lines _ (omega (arith, ap length same)) (c.index-certificates-j.is ∙ ap (λ t. get_or t c.loop-j.j x) same)
    c.in_ok-certificate_line.ensures c.loop-j.invariant)

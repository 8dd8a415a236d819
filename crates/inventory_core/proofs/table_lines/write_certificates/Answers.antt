use Rattle.std.proofs.Common.{ap, arith, get_or, length, subst, ◌∙◌, ◌++◌, ◌∷◌, []}
use Rattle.std.proofs.lemmas.List.{flat_map_more}
use Rattle.std.specs.String.{string_bytes}
use Rattle.asn1_core.specs.Texts.{seen_option}
use Rattle.frame.specs.DueText.{joined}
use Rattle.inventory_core.specs.Lines.{CertificateLine}
use Rattle.inventory_core.specs.Sheet.{Holds}
use Rattle.inventory_core.specs.View.{seen_all, seen_certificate}
use Rattle.inventory_core.proofs.LineLists.{next_seen}
use Rattle.inventory_core.proofs.table_lines.write_certificates.Goals as goal

pub loop-j-preserved : goal.loop-j-preserved
loop-j-preserved c =
    let cs = c.args.index.now.certificates.now in
    let x = c.index-certificates-j.result in
    let same = c.certificates-certificates.ensures in
    let line = c.in_ok-line.line in
    let so_far = c.loop-j.invariant in (
      so_far.0 ++ line ∷ [],
      next_seen (seen_option seen_certificate) (CertificateLine (seen_all cs)) cs c.loop-j.j x so_far.0 line (omega (arith, ap length same))
          (c.index-certificates-j.is ∙ ap (λ t. get_or t c.loop-j.j x) same) c.in_ok-line.ensures so_far.1,
      λ all holds. subst (λ t. Holds c.add.new.self.length c.add.new.self.room (string_bytes c.add.new.self.text) t)
          (ap (λ s. (all ++ joined so_far.0) ++ s) c.as_str.ensures ∙ flat_map_more (λ l. l) all so_far.0 line) (c.in_ok-add.ensures.holds (all ++ joined so_far.0) (so_far.2 all holds)),
      c.in_ok-add.ensures.room ∙ so_far.3,
    )

use Rattle.std.proofs.Common.{ap, arith, subst, ◌∙◌, ◌++◌, ◌∷◌, []}
use Rattle.std.proofs.lemmas.List.{flat_map_more}
use Rattle.std.specs.String.{string_bytes}
use Rattle.frame.specs.DueText.{joined}
use Rattle.inventory_core.specs.Lines.{KeyLine}
use Rattle.inventory_core.specs.Sheet.{Holds}
use Rattle.inventory_core.specs.View.{seen_all}
use Rattle.inventory_core.proofs.LineLists.{next_line}
use Rattle.inventory_core.proofs.table_lines.write_keys.Goals as goal

pub loop-i-preserved : goal.loop-i-preserved
loop-i-preserved c =
    let line = c.in_ok-line.line in
    let so_far = c.loop-i.invariant in (
      so_far.0 ++ line ∷ [],
      next_line (KeyLine (seen_all c.args.index.now.certificates.now) c.args.certificate_ids.now) c.args.key_ids.now c.loop-i.i c.index-key_ids-i.result so_far.0 line (omega arith) c.index-key_ids-i.is
          (c.start_of-start.result, c.start_of-start.ensures c.args.certificate_ids.now c.in_ok-firsts.ensures, c.in_ok-line.ensures) so_far.1,
      λ all holds. subst (λ t. Holds c.add.new.self.length c.add.new.self.room (string_bytes c.add.new.self.text) t)
          (ap (λ s. (all ++ joined so_far.0) ++ s) c.as_str.ensures ∙ flat_map_more (λ l. l) all so_far.0 line) (c.in_ok-add.ensures.holds (all ++ joined so_far.0) (so_far.2 all holds)),
      c.in_ok-add.ensures.room ∙ so_far.3,
    )

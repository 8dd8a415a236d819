use Rattle.std.proofs.Common.{arith, ap, ◌∙◌, [], ◌∷◌, ◌++◌}
use Rattle.std.proofs.lemmas.List.{append_assoc}
use Rattle.inventory_core.specs.Lines.{KeyLine}
use Rattle.inventory_core.specs.View.{seen_all}
use Rattle.inventory_core.proofs.LineLists.{next_line}
use Rattle.inventory_core.proofs.table_lines.add_key_lines.Goals as goal

pub loop-i-preserved : goal.loop-i-preserved
loop-i-preserved c =
    let line = c.in_ok-chain_line.field-0 in
    let so_far = c.loop-i.invariant in (
      so_far.0 ++ line ∷ [],
      c.in_ok-push.ensures.ok ∙ ap (λ t. t ++ line ∷ []) so_far.1 ∙ append_assoc c.args.lines.now so_far.0 (line ∷ []),
      next_line (KeyLine (seen_all c.args.index.now.certificates.now) c.args.certificate_ids.now) c.args.key_ids.now c.loop-i.i c.index-key_ids-i.result so_far.0 line (omega arith) c.index-key_ids-i.is
          (c.start_of-start.result, c.start_of-start.ensures c.args.certificate_ids.now c.in_ok-firsts.ensures, c.in_ok-chain_line.ensures) so_far.2,
    )

use Rattle.std.proofs.Common.{ap, refl, subst, sym, ◌∙◌, ◌++◌, []}
use Rattle.std.proofs.lemmas.Grind.{flat_map-append}
use Rattle.std.specs.String.{string_bytes}
use Rattle.frame.specs.DueText.{joined}
use Rattle.inventory_core.specs.Sheet.{Holds}
use Rattle.inventory_core.specs.View.{seen_all}
use Rattle.inventory_core.proofs.ShortKeys.{gathered_short}
use Rattle.inventory_core.proofs.Tables.{is_table}
use Rattle.inventory_core.proofs.table.table_within.Goals as goal

pub write_certificates-requires : goal.write_certificates-requires
write_certificates-requires c =
    gathered_short c.args.opened.now.contents (seen_all c.in_ok-index.index.certificates.now) (ap seen_all (c.in_ok-index.ensures ∙ c.as_slice.ensures) ∙ c.in_ok-gathered.ensures.certificates)

pub returns-clause-table : goal.returns-clause-table
returns-clause-table c =
    let certificates = c.in_ok-write_certificates.ensures.lines in
    let keys = c.in_ok-write_keys.ensures.lines in
    let sheet = c.write_keys.new.sheet in (
      joined (certificates.0 ++ keys.0),
      is_table c.args.opened.now.contents (seen_all c.in_ok-index.index.certificates.now) certificates.0 keys.0 c.as_slice-2.result.now c.as_slice-3.result.now
          (ap seen_all (c.in_ok-index.ensures ∙ c.as_slice.ensures) ∙ c.in_ok-gathered.ensures.certificates) (c.as_slice-2.ensures ∙ c.in_ok-gathered.ensures.certificate_ids)
          (c.as_slice-3.ensures ∙ c.in_ok-gathered.ensures.key_ids) certificates.1 keys.1 (certificates.0 ++ keys.0) refl,
      subst (λ t. Holds sheet.length sheet.room (string_bytes sheet.text) t) (sym (flat_map-append (λ l. l) certificates.0 keys.0))
          (keys.2 (joined certificates.0) (certificates.2 [] c.new-sheet.ensures.holds)),
    )

use Rattle.std.proofs.Common.{ap, ◌∙◌}
use Rattle.inventory_core.specs.View.{seen_all}
use Rattle.inventory_core.proofs.ShortKeys.{gathered_short}
use Rattle.inventory_core.proofs.Tables.{is_table}
use Rattle.inventory_core.proofs.table.table_of.Goals as goal

pub returns : goal.returns
returns c =
    let keys = c.in_ok-add_key_lines.ensures in
    is_table c.args.opened.now.contents (seen_all c.in_ok-index.index.certificates.now) c.in_ok-lines.lines keys.0 c.as_slice-2.result.now c.as_slice-3.result.now
    (ap seen_all (c.in_ok-index.ensures ∙ c.as_slice.ensures) ∙ c.in_ok-gathered.ensures.certificates) (c.as_slice-2.ensures ∙ c.in_ok-gathered.ensures.certificate_ids)
    (c.as_slice-3.ensures ∙ c.in_ok-gathered.ensures.key_ids) c.in_ok-lines.ensures keys.2 c.add_key_lines.new.lines keys.1

pub certificate_lines-requires : goal.certificate_lines-requires
certificate_lines-requires c =
    gathered_short c.args.opened.now.contents (seen_all c.in_ok-index.index.certificates.now) (ap seen_all (c.in_ok-index.ensures ∙ c.as_slice.ensures) ∙ c.in_ok-gathered.ensures.certificates)

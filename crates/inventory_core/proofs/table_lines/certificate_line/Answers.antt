use Rattle.std.proofs.Common.{ap, ◌∙◌}
use Rattle.std.specs.Prelude.{Some}
use Rattle.asn1_core.specs.Texts.{seen_option}
use Rattle.inventory_core.specs.View.{seen_certificate}
use Rattle.inventory_core.proofs.table_lines.certificate_line.Goals as goal

pub fingerprint_of-requires : goal.fingerprint_of-requires
fingerprint_of-requires c = c.requires.short c.args.j (seen_certificate c.in-Some.certificate) (c.requires.number ∙ ap (λ o. Some (seen_option seen_certificate o)) c.in-Some.is)

use Rattle.std.proofs.Common.{◌≡◌, ◌∙◌, ◌∷◌, ◌++◌, [], false, true, ap, sym, arith, rules}
use Rattle.std.specs.List.{list_any}
use Rattle.std.proofs.lemmas.Grind.{common_steps}
use Rattle.std.proofs.lemmas.List.Elements.{All-push, All-same}
use Rattle.pem_stores.specs.Certificates.{IsCertificateText, is_certificate_block, is_certificate_label, is_trusted_block}
use Rattle.pem_stores.proofs.Blocks.{certificates_more, certificates_same, one_refused}
use Rattle.pem_stores.proofs.certificates.certificates_in.Goals as goal
use Rattle.pem_stores.proofs.certificates.certificates_in.Goals.{then-is_certificate_label+in-Ok, else-is_certificate_label}

pub returns-in-Err-clause-err : goal.returns-in-Err-clause-err
returns-in-Err-clause-err c =
    let block = c.block-item.result in
    let plain : list_any is_trusted_block c.args.blocks.now ≡ false = sym c.has_trusted.ensures ∙ c.if-has_trusted.false in
    let labelled : is_certificate_block block ≡ true = ap is_certificate_label (sym c.as_slice.ensures) ∙ sym c.is_certificate_label.ensures ∙ c.if-is_certificate_label.true in
    one_refused c.args.blocks.now c.loop-block.block-index block c.in-Err.refusal plain (omega arith) c.block-item.is labelled c.in-Err.ensures.err

pub loop-block-preserved : goal.loop-block-preserved
loop-block-preserved c =
    let block = c.block-item.result in
    let told : is_certificate_block block ≡ c.is_certificate_label.result = ap is_certificate_label (sym c.as_slice.ensures) ∙ sym c.is_certificate_label.ensures in
    elim c.if-is_certificate_label.branch [
      | then-is_certificate_label+in-Ok w ↦
          let more : c.if-is_certificate_label.certificates.items ≡ c.loop-block.certificates.items ++ block.octets ∷ [] = first_of (cc, search rules, grind (arith, common_steps)) in
          record {
            in_order = certificates_more c.args.blocks.now c.loop-block.block-index block c.loop-block.certificates.items c.if-is_certificate_label.certificates.items (omega arith) c.block-item.is
                (told ∙ w.if-is_certificate_label.true) c.loop-block.invariant.in_order more;
            each = All-same IsCertificateText c.if-is_certificate_label.certificates.items (c.loop-block.certificates.items ++ block.octets ∷ []) more
                (All-push IsCertificateText c.loop-block.certificates.items block.octets c.loop-block.invariant.each w.in-Ok.ensures.is);
          }
      | else-is_certificate_label w ↦
          let same : c.if-is_certificate_label.certificates.items ≡ c.loop-block.certificates.items = first_of (cc, search rules) in
          record {
            in_order = same ∙ certificates_same c.args.blocks.now c.loop-block.block-index block c.loop-block.certificates.items (omega arith) c.block-item.is (told ∙ w.if-is_certificate_label.false) c.loop-block.invariant.in_order;
            each = All-same IsCertificateText c.if-is_certificate_label.certificates.items c.loop-block.certificates.items same c.loop-block.invariant.each;
          }
    ]

use Rattle.std.proofs.Common.{◌≡◌, get_or, map, take, refl, ap, ◌∙◌}
use Rattle.std.specs.Prelude.{Some, None}
use Rattle.std.proofs.lemmas.List.{take_all}
use Rattle.asn1_core.specs.Texts.{seen_option}
use Rattle.inventory_core.specs.SubjectIndex.{at_issuer, named_from}
use Rattle.inventory_core.specs.View.{seen_all, seen_certificate}
use Rattle.inventory_core.proofs.Noted.{get_seen}
use Rattle.inventory_core.proofs.subjects.issuers_of.Goals as goal

pub returns : goal.returns
returns c = λ j.
    let cs = c.args.certificates.now in
    let whole : take c.loop-certificate.certificate-index cs ≡ cs = take_all c.loop-certificate.certificate-index cs c.loop-certificate-test.false in
    ap (λ xs. get_or xs j None) (c.loop-certificate.invariant ∙ ap (map (λ x. at_issuer (named_from (seen_all cs) 0) (Some (seen_option seen_certificate x)))) whole)
    ∙ get_seen (at_issuer (named_from (seen_all cs) 0)) (seen_option seen_certificate) refl cs j

use Rattle.std.proofs.Common.{List, subst}
use Rattle.std.specs.Prelude.{Option, IfSome, IfNone}
use Rattle.p12.specs.declared.content_info.ContentInfo.{ContentInfo}
use Rattle.p12.specs.ContentInfo.{IsContents, NoContents}
use Rattle.legacy_store.proofs.ContentTexts.{der_is_in_der}
use Rattle.legacy_store.proofs.texts.safe_in_der.Goals as goal

pub returns-clause-some : goal.returns-clause-some
returns-clause-some c =
    let text = c.args.text.now in
    der_is_in_der text c.in_ok-copy.copy c.in-Some.field-0 c.in_ok-copy.ensures
    (subst (λ (m : Option (List ContentInfo)). IfSome m (λ s. IsContents text s)) c.in-Some.is c.in_ok-listed.ensures.some)

pub ber_safe_in_der-requires : goal.ber_safe_in_der-requires
ber_safe_in_der-requires c = subst (λ (m : Option (List ContentInfo)). IfNone m (NoContents c.args.text.now)) c.in_default.is c.in_ok-listed.ensures.none

use Rattle.std.proofs.Common.{List, subst}
use Rattle.std.specs.Prelude.{Option, IfSome, IfNone}
use Rattle.p12.specs.declared.content_info.ContentInfo.{ContentInfo}
use Rattle.p12.specs.ContentInfo.{IsContents, NoContents}
use Rattle.legacy_store.proofs.Normal.{der_lists}
use Rattle.legacy_store.proofs.texts.read_safe.Goals as goal

pub returns-in-Some-clause-ok : goal.returns-in-Some-clause-ok
returns-in-Some-clause-ok c =
    der_lists c.args.text.now c.in-Some.contents (subst (λ (m : Option (List ContentInfo)). IfSome m (λ cs. IsContents c.args.text.now cs)) c.in-Some.is c.in_ok-found.ensures.some)

pub read_ber_safe-requires : goal.read_ber_safe-requires
read_ber_safe-requires c = subst (λ (m : Option (List ContentInfo)). IfNone m (NoContents c.args.text.now)) c.in-None.is c.in_ok-found.ensures.none

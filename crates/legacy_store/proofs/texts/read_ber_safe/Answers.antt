use Rattle.std.proofs.Common.{List, refl, subst}
use Rattle.std.specs.Prelude.{Option, IfSome, IfNone}
use Rattle.p12.specs.declared.content_info.ContentInfo.{ContentInfo}
use Rattle.legacy_store.specs.Texts.{IsLegacySafe, NoLegacySafe}
use Rattle.legacy_store.proofs.texts.read_ber_safe.Goals as goal

pub returns-in-Some-clause-ok : goal.returns-in-Some-clause-ok
returns-in-Some-clause-ok c = subst (λ (m : Option (List ContentInfo)). IfSome m (λ cs. IsLegacySafe c.args.text.now cs)) c.in-Some.is c.in_ok-found.ensures.some

pub returns-in-None-clause-err : goal.returns-in-None-clause-err
returns-in-None-clause-err c = (refl, subst (λ (m : Option (List ContentInfo)). IfNone m (NoLegacySafe c.args.text.now)) c.in-None.is c.in_ok-found.ensures.none)

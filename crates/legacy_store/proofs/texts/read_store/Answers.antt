use Rattle.std.proofs.Common.{◌-◌, ◌^◌, refl, subst}
use Rattle.std.specs.Prelude.{Option, IfSome, IfNone}
use Rattle.p12.specs.declared.pfx.PFX.{PFX}
use Rattle.p12.specs.Pfx.{StoreFits}
use Rattle.legacy_store.specs.Texts.{IsLegacyStore, NoLegacyStore}
use Rattle.legacy_store.proofs.texts.read_store.Goals as goal

pub returns-in-Some-clause-ok : goal.returns-in-Some-clause-ok
returns-in-Some-clause-ok c = (subst (λ (m : Option PFX). IfSome m (λ s. IsLegacyStore c.args.text.now s × StoreFits (2 ^ 32 - 1) s)) c.in-Some.is c.in_ok-found.ensures.some).0

pub returns-in-Some-clause-fits : goal.returns-in-Some-clause-fits
returns-in-Some-clause-fits c = (subst (λ (m : Option PFX). IfSome m (λ s. IsLegacyStore c.args.text.now s × StoreFits (2 ^ 32 - 1) s)) c.in-Some.is c.in_ok-found.ensures.some).1

pub returns-in-None-clause-err : goal.returns-in-None-clause-err
returns-in-None-clause-err c = (refl, subst (λ (m : Option PFX). IfNone m (NoLegacyStore c.args.text.now)) c.in-None.is c.in_ok-found.ensures.none)

use Rattle.std.proofs.Common.{◌-◌, ◌^◌, subst}
use Rattle.std.specs.Prelude.{Option, IfSome, IfNone}
use Rattle.p12.specs.declared.pfx.PFX.{PFX}
use Rattle.p12.specs.Pfx.{IsStore, NoStore, StoreFits}
use Rattle.legacy_store.proofs.Normal.{der_is_read}
use Rattle.legacy_store.proofs.texts.found_store.Goals as goal

pub returns-in-Some-clause-some : goal.returns-in-Some-clause-some
returns-in-Some-clause-some c =
    let h = subst (λ (m : Option PFX). IfSome m (λ s. IsStore c.args.text.now s × StoreFits (2 ^ 32 - 1) s)) c.in-Some.is c.in_ok-found.ensures.some in
    (der_is_read c.args.text.now c.in-Some.store h.0, h.1)

pub ber_store-requires : goal.ber_store-requires
ber_store-requires c = subst (λ (m : Option PFX). IfNone m (NoStore c.args.text.now)) c.in-None.is c.in_ok-found.ensures.none

use Rattle.std.proofs.Common.{◌-◌, ◌^◌, subst, refl}
use Rattle.std.specs.Prelude.{Option, IfSome}
use Rattle.p12.specs.declared.pfx.PFX.{PFX}
use Rattle.p12.specs.Pfx.{StoreFits}
use Rattle.legacy_store.specs.Texts.{IsLegacyStore}
use Rattle.legacy_store.proofs.Stays.{each_or_none, mac_writable}
use Rattle.legacy_store.proofs.texts.store_in_der.Goals as goal

pub whole_in_der-requires : goal.whole_in_der-requires
whole_in_der-requires c =
    let b = c.args.store.now in
    let read = subst (λ (m : Option PFX). IfSome m (λ s. IsLegacyStore b s × StoreFits (2 ^ 32 - 1) s)) c.in-Some.is c.in_ok-found.ensures.some in
    mac_writable b c.in-Some.read read.0

pub returns-in-Some-clause-none : goal.returns-in-Some-clause-none
returns-in-Some-clause-none c =
    let b = c.args.store.now in
    let read = subst (λ (m : Option PFX). IfSome m (λ s. IsLegacyStore b s × StoreFits (2 ^ 32 - 1) s)) c.in-Some.is c.in_ok-found.ensures.some in
    each_or_none b c.in-Some.read c.whole_in_der.result read.0 (c.if-stays_as_it_is.ensures.no refl) c.whole_in_der.ensures.some c.whole_in_der.ensures.none

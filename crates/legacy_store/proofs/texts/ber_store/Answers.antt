use Rattle.std.proofs.Common.{ℕ, ◌-◌, ◌^◌, List, subst}
use Rattle.std.specs.Prelude.{Option, IfSome, IfNone}
use Rattle.ber_core.specs.Ber.{Ber}
use Rattle.p12.specs.declared.pfx.PFX.{PFX}
use Rattle.p12.specs.Pfx.{IsStore, NoStore, StoreFits}
use Rattle.legacy_store.specs.Texts.{IsLegacyStore, NoLegacyStore}
use Rattle.legacy_store.proofs.Normal.{ber_is_read, if_none, if_some, no_ber_store, no_store_in}
use Rattle.legacy_store.proofs.texts.ber_store.Goals as goal

pub returns-in-Some-clause-some : goal.returns-in-Some-clause-some
returns-in-Some-clause-some c =
    let ber = subst (λ (m : Option (List ℕ)). IfSome m (λ der. Ber c.args.text.now der)) c.in-Some.is c.in_ok-found.ensures.some in
    if_some (λ (s : PFX). IsStore c.as_slice.result.now s × StoreFits (2 ^ 32 - 1) s) (λ (s : PFX). IsLegacyStore c.args.text.now s × StoreFits (2 ^ 32 - 1) s) c.der_store.result
    (λ s h. (ber_is_read c.args.text.now c.in-Some.der s c.requires ber (subst (λ (b : List ℕ). IsStore b s) c.as_slice.ensures h.0), h.1)) c.der_store.ensures.some

pub returns-in-Some-clause-none : goal.returns-in-Some-clause-none
returns-in-Some-clause-none c =
    let ber = subst (λ (m : Option (List ℕ)). IfSome m (λ der. Ber c.args.text.now der)) c.in-Some.is c.in_ok-found.ensures.some in
    if_none (NoStore c.as_slice.result.now) (NoLegacyStore c.args.text.now) c.der_store.result
    (λ h. no_store_in c.args.text.now c.in-Some.der c.requires ber (subst NoStore c.as_slice.ensures h)) c.der_store.ensures.none

pub returns-in-None-clause-none : goal.returns-in-None-clause-none
returns-in-None-clause-none c =
    no_ber_store c.args.text.now c.requires (subst (λ (m : Option (List ℕ)). IfNone m ((d : List ℕ) → Ber c.args.text.now d → ⊥)) c.in-None.is c.in_ok-found.ensures.none)

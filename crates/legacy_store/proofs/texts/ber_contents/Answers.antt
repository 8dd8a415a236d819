use Rattle.std.proofs.Common.{ℕ, List, subst}
use Rattle.std.specs.Prelude.{Option, IfSome, IfNone}
use Rattle.asn1_core.specs.Der.{IsShort}
use Rattle.p12.specs.declared.content_info.ContentInfo.{ContentInfo}
use Rattle.p12.specs.ContentInfo.{IsContents, NoContents}
use Rattle.legacy_store.specs.Texts.{BerSafe, IsLegacySafe, NoLegacySafe}
use Rattle.legacy_store.proofs.Normal.{ber_lists, if_none, if_some, no_ber_safe, no_safe_in}
use Rattle.legacy_store.proofs.texts.ber_contents.Goals as goal

pub returns-in-Some-clause-some : goal.returns-in-Some-clause-some
returns-in-Some-clause-some c =
    let ber = subst (λ (m : Option (List ℕ)). IfSome m (λ der. BerSafe c.args.text.now der × IsShort der)) c.in-Some.is c.in_ok-found.ensures.some in
    if_some (λ (s : List ContentInfo). IsContents c.as_slice.result.now s) (λ (s : List ContentInfo). IsLegacySafe c.args.text.now s) c.der_contents.result
    (λ s h. ber_lists c.args.text.now c.in-Some.der s c.requires ber.0 (subst (λ (b : List ℕ). IsContents b s) c.as_slice.ensures h)) c.der_contents.ensures.some

pub returns-in-Some-clause-none : goal.returns-in-Some-clause-none
returns-in-Some-clause-none c =
    let ber = subst (λ (m : Option (List ℕ)). IfSome m (λ der. BerSafe c.args.text.now der × IsShort der)) c.in-Some.is c.in_ok-found.ensures.some in
    if_none (NoContents c.as_slice.result.now) (NoLegacySafe c.args.text.now) c.der_contents.result
    (λ h. no_safe_in c.args.text.now c.in-Some.der c.requires ber.0 ber.1 (subst NoContents c.as_slice.ensures h)) c.der_contents.ensures.none

pub returns-in-None-clause-none : goal.returns-in-None-clause-none
returns-in-None-clause-none c =
    no_ber_safe c.args.text.now c.requires (subst (λ (m : Option (List ℕ)). IfNone m ((e : List ℕ) → BerSafe c.args.text.now e → IsShort e → ⊥)) c.in-None.is c.in_ok-found.ensures.none)

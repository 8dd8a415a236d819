use Rattle.std.proofs.Common.{ℕ, List, subst}
use Rattle.std.specs.Prelude.{Option, IfSome, IfNone}
use Rattle.asn1_core.specs.Der.{IsShort}
use Rattle.p12.specs.declared.content_info.ContentInfo.{ContentInfo}
use Rattle.p12.specs.ContentInfo.{IsContents, NoContents}
use Rattle.legacy_store.specs.Texts.{BerSafe}
use Rattle.legacy_store.proofs.Normal.{ber_lists, no_ber_safe, no_safe_in}
use Rattle.legacy_store.proofs.texts.ber_safe_in_der.Goals as goal

pub returns-in-Some-listed-clause-some : goal.returns-in-Some-listed-clause-some
returns-in-Some-listed-clause-some c =
    let text = c.args.text.now in
    let cs = c.in-Some-listed.field-0 in
    let ber = subst (λ (m : Option (List ℕ)). IfSome m (λ der. BerSafe text der × IsShort der)) c.in-Some.is c.in_ok-found.ensures.some in
    let held = subst (λ (m : Option (List ContentInfo)). IfSome m (λ s. IsContents c.as_slice.result.now s)) c.in-Some-listed.is c.in_ok-listed.ensures.some in
    let is = subst (λ (b : List ℕ). IsContents b cs) c.as_slice.ensures held in
    (cs, ber_lists text c.in-Some.der cs c.requires ber.0 is, is)

pub returns-in-None-clause-none : goal.returns-in-None-clause-none
returns-in-None-clause-none c =
    let text = c.args.text.now in
    let ber = subst (λ (m : Option (List ℕ)). IfSome m (λ der. BerSafe text der × IsShort der)) c.in-Some.is c.in_ok-found.ensures.some in
    let none = subst (λ (m : Option (List ContentInfo)). IfNone m (NoContents c.as_slice.result.now)) c.in-None.is c.in_ok-listed.ensures.none in
    no_safe_in text c.in-Some.der c.requires ber.0 ber.1 (subst NoContents c.as_slice.ensures none)

pub returns-in_default-clause-none : goal.returns-in_default-clause-none
returns-in_default-clause-none c =
    no_ber_safe c.args.text.now c.requires (subst (λ (m : Option (List ℕ)). IfNone m ((e : List ℕ) → BerSafe c.args.text.now e → IsShort e → ⊥)) c.in_default.is c.in_ok-found.ensures.none)

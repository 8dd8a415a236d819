use Rattle.std.proofs.Common.{◌≡◌, ℕ, List, Ok, subst, sym}
use Rattle.std.specs.Prelude.{Option, IfSome, IfNone}
use Rattle.asn1_core.specs.Der.{IsShort}
use Rattle.ber_core.specs.Ber.{Ber}
use Rattle.legacy_store.specs.JoinedReading.{joined_safe}
use Rattle.legacy_store.specs.Texts.{BerSafe}
use Rattle.legacy_store.proofs.JoinedRows.{joined_is_read, safe_joined}
use Rattle.legacy_store.proofs.Normal.{if_none, if_some, none_at, none_of}
use Rattle.legacy_store.proofs.texts.ber_safe.Goals as goal

pub returns-in-Some-clause-some : goal.returns-in-Some-clause-some
returns-in-Some-clause-some c =
    let ber = subst (λ (m : Option (List ℕ)). IfSome m (λ der. Ber c.args.ber.now der)) c.in-Some.is c.in_ok-found.ensures.some in
    if_some (λ (e : List ℕ). joined_safe c.as_slice.result.now ≡ Ok e) (λ (e : List ℕ). BerSafe c.args.ber.now e × IsShort e) c.joined_der.result
    (λ e h. let s = safe_joined c.in-Some.der e (subst (λ (b : List ℕ). joined_safe b ≡ Ok e) c.as_slice.ensures h) in ((c.in-Some.der, ber, s.0), s.1)) c.joined_der.ensures.some

pub returns-in-Some-clause-none : goal.returns-in-Some-clause-none
returns-in-Some-clause-none c =
    let ber = subst (λ (m : Option (List ℕ)). IfSome m (λ der. Ber c.args.ber.now der)) c.in-Some.is c.in_ok-found.ensures.some in
    if_none ((e : List ℕ) → joined_safe c.as_slice.result.now ≡ Ok e → ⊥) ((e : List ℕ) → BerSafe c.args.ber.now e → IsShort e → ⊥) c.joined_der.result
    (λ h. none_of c.args.ber.now c.in-Some.der ber (λ e is short. h e (subst (λ (b : List ℕ). joined_safe b ≡ Ok e) (sym c.as_slice.ensures) (joined_is_read c.in-Some.der e is short)))) c.joined_der.ensures.none

pub returns-in-None-clause-none : goal.returns-in-None-clause-none
returns-in-None-clause-none c =
    none_at c.args.ber.now (subst (λ (m : Option (List ℕ)). IfNone m ((d : List ℕ) → Ber c.args.ber.now d → ⊥)) c.in-None.is c.in_ok-found.ensures.none)

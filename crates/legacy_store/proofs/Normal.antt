-- Texts that are no DER text, and what their BER is a text of.
use Rattle.std.proofs.Common.{◌≡◌, ◌⊎◌, ◌∙◌, sym, subst, inl, inr, List, ℕ}
use Rattle.std.specs.Prelude.{Option, Some, None, Result, Ok, Err, IfOk, IfSome, IfNone}
use Rattle.asn1_core.specs.Der.{IsShort}
use Rattle.asn1_core.specs.Gives.{IsNone}
use Rattle.ber_core.specs.Ber.{Ber}
use Rattle.ber_core.specs.BerLaws.{one_value}
use Rattle.ber_core.specs.declared.error.Error.{Error}
use Rattle.ber_core.specs.declared.error.Error.TheVariants.{Malformed, Memory}
use Rattle.p12.specs.declared.content_info.ContentInfo.{ContentInfo}
use Rattle.p12.specs.declared.pfx.PFX.{PFX}
use Rattle.p12.specs.ContentInfo.{IsContents, NoContents}
use Rattle.p12.specs.Pfx.{IsStore, NoStore}
use Rattle.legacy_store.specs.Joined.{JoinedSafe}
use Rattle.legacy_store.specs.Texts.{BerSafe, IsLegacySafe, IsLegacyStore, NoLegacySafe, NoLegacyStore}
use Rattle.legacy_store.proofs.JoinedRows.{one_joined}

pub no_ber : (b : List ℕ) (e : Error) → e ≡ Malformed → (e ≡ Memory) ⊎ ((e ≡ Malformed) × IsNone Ber b) → (d : List ℕ) → Ber b d → ⊥
no_ber b e is (inl h) d ber = let k = sym is ∙ h in absurd cc
no_ber b e is (inr h) d ber = h.1 d ber

-- ---- Stores

pub der_is_read : (b : List ℕ) (s : PFX) → IsStore b s → IsLegacyStore b s
unfolding IsLegacyStore
der_is_read b s is = inl is

pub ber_is_read : (b d : List ℕ) (s : PFX) → NoStore b → Ber b d → IsStore d s → IsLegacyStore b s
unfolding IsLegacyStore
ber_is_read b d s none ber is = inr (d, none, ber, is)

pub no_store_in : (b d : List ℕ) → NoStore b → Ber b d → NoStore d → NoLegacyStore b
unfolding IsLegacyStore
no_store_in b d none ber nothing s (inl is) = none s is
no_store_in b d none ber nothing s (inr (e, _, also, is)) = nothing s (subst (λ x. IsStore x s) (one_value b e d also ber) is)

pub no_ber_store : (b : List ℕ) → NoStore b → ((d : List ℕ) → Ber b d → ⊥) → NoLegacyStore b
unfolding IsLegacyStore
no_ber_store b none nothing s (inl is) = none s is
no_ber_store b none nothing s (inr (d, _, ber, is)) = nothing d ber

-- ---- Contents

pub der_lists : (b : List ℕ) (cs : List ContentInfo) → IsContents b cs → IsLegacySafe b cs
unfolding IsLegacySafe
der_lists b cs is = inl is

contents_short : (v : List ℕ) (cs : List ContentInfo) → IsContents v cs → IsShort v
unfolding IsContents
contents_short v cs is = is.1

one_text : (v d e : List ℕ) → BerSafe v d → IsShort d → BerSafe v e → IsShort e → d ≡ e
one_text v d e (a, ber, is) short (b, also, so) shown =
    one_joined a d e is short (subst (λ x. JoinedSafe x e) (one_value v b a also ber) so) shown

-- The contents that a BER text lists are in one text.
pub same_contents : (v d e : List ℕ) (cs : List ContentInfo) → BerSafe v d → IsShort d → BerSafe v e → IsContents e cs → IsContents d cs
same_contents v d e cs ber short also is =
    subst (λ x. IsContents x cs) (one_text v e d also (contents_short e cs is) ber short) is

pub same_of : (v d e : List ℕ) (cs ds : List ContentInfo) → BerSafe v d → IsContents d ds → BerSafe v e → IsContents e cs → IsContents d cs
same_of v d e cs ds ber listed also is = same_contents v d e cs ber (contents_short d ds listed) also is

pub ber_lists : (b d : List ℕ) (cs : List ContentInfo) → NoContents b → BerSafe b d → IsContents d cs → IsLegacySafe b cs
unfolding IsLegacySafe
ber_lists b d cs none ber is = inr (d, none, ber, is)

pub no_safe_in : (b d : List ℕ) → NoContents b → BerSafe b d → IsShort d → NoContents d → NoLegacySafe b
unfolding IsLegacySafe
no_safe_in b d none ber short nothing cs (inl is) = none cs is
no_safe_in b d none ber short nothing cs (inr (e, _, also, is)) = nothing cs (same_contents b d e cs ber short also is)

pub no_ber_safe : (b : List ℕ) → NoContents b → ((e : List ℕ) → BerSafe b e → IsShort e → ⊥) → NoLegacySafe b
unfolding IsLegacySafe
no_ber_safe b none nothing cs (inl is) = none cs is
no_ber_safe b none nothing cs (inr (e, _, ber, is)) = nothing e ber (contents_short e cs is)

-- ---- Lists of contents in BER

pub none_of : (b d : List ℕ) → Ber b d → ((e : List ℕ) → JoinedSafe d e → IsShort e → ⊥) → (e : List ℕ) → BerSafe b e → IsShort e → ⊥
none_of b d ber nothing e (a, also, is) short =
    nothing e (subst (λ x. JoinedSafe x e) (one_value b a d also ber) is) short

pub none_at : (b : List ℕ) → ((d : List ℕ) → Ber b d → ⊥) → (e : List ℕ) → BerSafe b e → IsShort e → ⊥
none_at b nothing e (d, ber, is) short = nothing d ber

-- ---- What an answer says, mapped

pub if_some : {A E : Type 0} (P Q : A → Type 0) (r : Result (Option A) E) → ((x : A) → P x → Q x) → IfOk r (λ m. IfSome m P) → IfOk r (λ m. IfSome m Q)
if_some P Q (Ok (Some x)) f h = f x h
if_some P Q (Ok None) f h = tt
if_some P Q (Err e) f h = tt

pub if_none : {A E : Type 0} (P Q : Type 0) (r : Result (Option A) E) → (P → Q) → IfOk r (λ m. IfNone m P) → IfOk r (λ m. IfNone m Q)
if_none P Q (Ok (Some x)) f h = tt
if_none P Q (Ok None) f h = f h
if_none P Q (Err e) f h = tt

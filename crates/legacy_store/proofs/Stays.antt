-- What is in DER already, and what lists no contents.
use Rattle.std.proofs.Common.{◌≡◌, ◌∙◌, ℕ, List, inl, inr, refl, sym, false, ap, subst}
use Rattle.std.specs.Prelude.{Option, Some, None, Result, Ok, Err, IsNone, IfOk, IfErr, IfSome, IfNone, ◌↔◌}
use Rattle.std.specs.Result.{is_ok}
use Rattle.der_core.specs.Optional.{writable_option}
use Rattle.p12.specs.declared.error.Error.{Error}
use Rattle.p12.specs.declared.error.Error.TheVariants as errors
use Rattle.p12.specs.Canonical.{WritableMac}
use Rattle.p12.specs.ContentInfo.{IsContents, NoContents}
use Rattle.p12.specs.Pfx.{IsStore}
use Rattle.p12.specs.declared.content_info.ContentInfo.{ContentInfo}
use Rattle.p12.specs.declared.content_info.ContentInfo.TheVariants as content
use Rattle.p12.specs.declared.pfx.PFX.{PFX}
use Rattle.p12.proofs.Again.{store_writes}
use Rattle.p12.proofs.DefinitionLaws.{store_sole}
use Rattle.legacy_store.specs.InDer.{IsInDer, IsWholeInDer, ListsNothing, NoListedStore, StaysAsItIs}
use Rattle.legacy_store.specs.Texts.{IsLegacySafe, IsLegacyStore, NoLegacySafe, NoLegacyStore}
use Rattle.legacy_store.proofs.Verdict.{legacy_store_sole}

-- The MAC of a store that was read can be written.
pub mac_writable : (b : List ℕ) (s : PFX) → IsLegacyStore b s → writable_option WritableMac s.mac_data
unfolding IsLegacyStore IsStore
mac_writable b s (inl is) = (store_writes s (b, is.0)).1
mac_writable b s (inr (d, none, ber, is)) = (store_writes s (d, is.0)).1

data_is : (v w : List ℕ) → content.Data v ≡ content.Data w → v ≡ w
data_is v w e = cc

-- ---- A text that is that of a store

-- Its list of contents is no text of one.
pub not_in_der : (b v : List ℕ) (s : PFX) → IsStore b s → s.auth_safe ≡ content.Data v → NoContents v → IsInDer b → ⊥
not_in_der b v s is at none (t, w, cs, also, held, lists) =
    let same : w ≡ v = data_is w v (sym held ∙ ap (λ (x : PFX). x.auth_safe) (store_sole b t s also is) ∙ at) in
    none cs (subst (λ (x : List ℕ). IsContents x cs) same lists)

pub plain_not : {T : Type 0} (b v : List ℕ) (s : PFX) (r : Result T Error) → IsStore b s → s.auth_safe ≡ content.Data v
    → IfErr r (λ e. (e ≡ errors.Malformed) × NoContents v) → is_ok r ≡ false → IsInDer b → ⊥
plain_not b v s (Ok x) is at none bad = absurd cc
plain_not b v s (Err e) is at none bad = not_in_der b v s is at none.1

-- A store that lists nothing is the only one.
pub lists_nothing : (b : List ℕ) (s : PFX) → IsLegacyStore b s → ListsNothing s → NoListedStore b
lists_nothing b s is none t also = subst ListsNothing (legacy_store_sole b s t is also) none

pub no_list : (s : PFX) (a : ContentInfo) → s.auth_safe ≡ a → ((v : List ℕ) → a ≡ content.Data v → ⊥) → ListsNothing s
no_list s a is none v cs at lists = none v (sym is ∙ at)

pub no_safe : (s : PFX) (v : List ℕ) → s.auth_safe ≡ content.Data v → NoLegacySafe v → ListsNothing s
no_safe s v at none w cs held lists = none cs (subst (λ (x : List ℕ). IsLegacySafe x cs) (data_is w v (sym held ∙ at)) lists)

pub no_store : (b : List ℕ) → NoLegacyStore b → NoListedStore b
no_store b none s is = absurd (none s is)

-- ---- What is put into DER

-- A store with a text in DER lists contents.
lists_some : {P : Type 0} (b d : List ℕ) (s : PFX) → IsLegacyStore b s → IsWholeInDer s d → NoListedStore b → P
lists_some b d s is (v, e, at, (cs, listed, made), text) none = absurd (none s is v cs at listed)

some_or_none : (b : List ℕ) (s : PFX) (m : Option (List ℕ)) → IsLegacyStore b s → (IsInDer b → ⊥) → IfSome m (IsWholeInDer s)
    → IfNone m (ListsNothing s) → IsNone m ↔ StaysAsItIs b
some_or_none b s None is not made nothing = (λ none. inr (lists_nothing b s is nothing), λ stays. refl)
some_or_none b s (Some d) is not made nothing = (
  λ none. absurd cc,
  λ stays. elim stays [
    | inl h ↦ absurd (not h)
    | inr h ↦ lists_some b d s is made h
  ],
)

pub each_or_none : {E : Type 0} (b : List ℕ) (s : PFX) (r : Result (Option (List ℕ)) E) → IsLegacyStore b s → (IsInDer b → ⊥) → IfOk r (λ m. IfSome m (IsWholeInDer s))
    → IfOk r (λ m. IfNone m (ListsNothing s)) → IfOk r (λ m. IsNone m ↔ StaysAsItIs b)
each_or_none b s (Ok m) is not made nothing = some_or_none b s m is not made nothing
each_or_none b s (Err e) is not made nothing = tt

-- The parts of a store are those of each text that is in DER of it.
use Rattle.std.proofs.Common.{◌≡◌, inl, inr, ℕ, List, [], ◌++◌, refl, sym, ap, subst, ◌∙◌, append-nil}
use Rattle.asn1_core.specs.Der.{IsShort, seq, octets, ctx}
use Rattle.asn1_core.specs.Oid.{oid_of}
use Rattle.p12.specs.Canonical.{content_canon, store_canon}
use Rattle.p12.specs.ContentInfo.{ContentCase, IsContents}
use Rattle.p12.specs.Identifiers.{data_oid}
use Rattle.p12.specs.Pfx.{IsStore}
use Rattle.p12.specs.declared.content_info.ContentInfo.{ContentInfo}
use Rattle.p12.specs.declared.content_info.ContentInfo.TheVariants as content
use Rattle.p12.specs.declared.pfx.PFX.{PFX}
use Rattle.p12.proofs.Again.{known, store_again}
use Rattle.p12.proofs.DefinitionLaws.{contents_sole, store_sole}
use Rattle.legacy_store.specs.InDer.{IsStoreInDer, store_with}
use Rattle.legacy_store.specs.Texts.{IsLegacySafe, IsLegacyStore}
use Rattle.store_renewal.specs.Parts.{HasDerParts, HasParts}

pub data_is : (v w : List ℕ) → content.Data v ≡ content.Data w → v ≡ w
data_is v w e = cc

-- ---- a store in DER

store_row : (b e : List ℕ) (s : PFX) → IsStore b s → IsShort (store_canon (store_with s e)) → IsStore (store_canon (store_with s e)) (store_with s e)
unfolding IsStore
store_row b e s ((w, (x, y, r, (x2, y2, c, (x3, y3, n, e3, e2), e1), e4), e0), short) h =
    let plain = content_canon (content.Data e) in
    let k = known ContentCase (oid_of data_oid refl) data_oid (ctx 0 (octets e)) (content.Data e) refl (refl, (octets e, (e, refl, refl), refl)) in
    (store_again (store_with s e) (seq (x ++ (plain ++ x3)), (x ++ (plain ++ x3), (x, plain ++ x3, r, (plain, x3, k, (x3, [], n, refl, sym (append-nil x3)), refl), refl), refl)), h)

-- The text of a store with another list of contents is one of it.
stands : (b e : List ℕ) (s : PFX) → IsLegacyStore b s → IsShort (store_canon (store_with s e)) → IsStore (store_canon (store_with s e)) (store_with s e)
unfolding IsLegacyStore
stands b e s (inl is) h = store_row b e s is h
stands b e s (inr (d, none, ber, is)) h = store_row d e s is h

store_short : (b : List ℕ) (s : PFX) → IsStore b s → IsShort b
unfolding IsStore
store_short b s is = is.1

-- ---- the parts

pub parts_as_they_are : (b : List ℕ) (n : ℕ) (cs : List ContentInfo) → HasDerParts b n cs → HasParts b n cs
unfolding IsLegacyStore IsLegacySafe
parts_as_they_are b n cs (s, v, is, version, at, lists) = (s, v, inl is, version, at, inl lists)

pub parts_in_der : (b d : List ℕ) (n : ℕ) (cs : List ContentInfo) → IsStoreInDer b d → HasDerParts d n cs → HasParts b n cs
parts_in_der b d n cs (s, is, (v, e, at, (ds, listed, made), text)) (t, w, read, version, seen, lists) =
    let short : IsShort (store_canon (store_with s e)) = subst IsShort text (store_short d t read) in
    let same : t ≡ store_with s e = store_sole d t (store_with s e) read (subst (λ (x : List ℕ). IsStore x (store_with s e)) (sym text) (stands b e s is short)) in
    let list : w ≡ e = data_is w e (sym seen ∙ ap (λ (x : PFX). x.auth_safe) same) in
    let all : ds ≡ cs = contents_sole e ds cs made (subst (λ (x : List ℕ). IsContents x cs) list lists) in
    (s, v, is, sym (ap (λ (x : PFX). x.version) same) ∙ version, at, subst (IsLegacySafe v) all listed)

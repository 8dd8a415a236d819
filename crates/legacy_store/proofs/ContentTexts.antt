-- The texts of contents one after the other, where one more comes after them.
use Rattle.std.proofs.Common.{inl, ℕ, ◌≡◌, ◌∙◌, ◌+◌, ◌-◌, ◌≤◌, ◌<◌, List, [], ◌∷◌, ◌++◌, length, length-append, take, drop, get_or, refl, sym, ap, ap₂, arith, subst}
use Rattle.std.specs.Prelude.{All, slice_range}
use Rattle.std.proofs.lemmas.List.{drop-append-le, drop_at, get_or_default, length-drop, map-append, take-append-le, take_all}
use Rattle.std.proofs.lemmas.List.Elements.{All-append, All-cons, All-head, All-nil, All-tail}
use Rattle.asn1_core.specs.Sets.{Each}
use Rattle.p12.specs.BagView.{ListsBags, bags_of}
use Rattle.p12.specs.Place.{at_place}
use Rattle.p12.specs.ContentInfo.{IsContents}
use Rattle.p12.specs.SafeBag.{IsBags}
use Rattle.p12.specs.declared.content_info.ContentInfo.{ContentInfo}
use Rattle.p12.specs.declared.encrypted_private_key_info.EncryptedPrivateKeyInfo.{EncryptedPrivateKeyInfo}
use Rattle.p12.specs.declared.place.Place.{Place}
use Rattle.p12.specs.declared.safe_bag.SafeBag.{SafeBag}
use Rattle.p12.proofs.DefinitionLaws.{listed}
use Rattle.transfer.specs.Limits.{store_limit}
use Rattle.transfer.specs.OpenedSafe.{ListsAt, bags_there, contents_at}
use Rattle.transfer.specs.Opening.{IsKeyText, IsStoredKey}
use Rattle.legacy_store.specs.Forms.{Forms}
use Rattle.legacy_store.specs.InDer.{IsSafeInDer}
use Rattle.legacy_store.specs.Opening.{LegacyKeyOpens}
use Rattle.legacy_store.specs.Texts.{IsLegacySafe}

module _ (text more : List ℕ) where
  -- What is at a place in the text stays there.
  stays : (p : Place) → p.start + p.len ≤ length text → at_place p (text ++ more) ≡ at_place p text
  stays p le =
      ap (take p.len) (drop-append-le p.start text more (omega (arith, le))) ∙ take-append-le p.len (drop p.start text) more (omega (arith, le, length-drop p.start text))

  -- The other text is at the place behind.
  behind : (p : Place) → p.start ≡ length text → p.len ≡ length more → at_place p (text ++ more) ≡ more
  behind p start len = ap (take p.len) (drop_at text more p.start (sym start)) ∙ take_all p.len more (omega (arith, len))

  lists_still : (p : Place) → ListsAt text p → ListsAt (text ++ more) p
  lists_still p h = (omega (arith, h.0, length-append text more), subst ListsBags (sym (stays p h.0)) h.1)

  bags_still : (ps : List Place) → All (ListsAt text) ps → contents_at (text ++ more) ps ≡ contents_at text ps
  bags_still [] h = refl
  bags_still (p ∷ ps) h =
      ap₂ (λ (x : List SafeBag) (xs : List (List SafeBag)). x ∷ xs) (ap bags_of (stays p (All-head (ListsAt text) p ps h).0)) (bags_still ps (All-tail (ListsAt text) p ps h))

  -- The places list bags in the longer text too.
  pub all_still : (new : List ℕ) (ps : List Place) → new ≡ text ++ more → All (ListsAt text) ps → All (ListsAt new) ps
  all_still new ps is h = subst (λ t. All (ListsAt t) ps) (sym is) (λ k d lt. lists_still (get_or ps k d) (h k d lt))

  pub bags_same : (new : List ℕ) (ps : List Place) → new ≡ text ++ more → All (ListsAt text) ps → contents_at new ps ≡ contents_at text ps
  bags_same new ps is h = ap (λ t. contents_at t ps) is ∙ bags_still ps h

  module _ (p : Place) (start : p.start ≡ length text) (len : p.len ≡ length more) where
    pub all_more : (new : List ℕ) (ps news : List Place) → new ≡ text ++ more → news ≡ ps ++ p ∷ [] → All (ListsAt text) ps → ListsBags more → All (ListsAt new) news
    all_more new ps news is grown h lists =
        let last : ListsAt new p = subst (λ t. ListsAt t p) (sym is) (omega (arith, start, len, length-append text more), subst ListsBags (sym (behind p start len)) lists) in
        subst (All (ListsAt new)) (sym grown) (All-append (ListsAt new) ps (p ∷ []) (all_still new ps is h) (All-cons (ListsAt new) p [] last (All-nil (ListsAt new))))

    pub bags_more : (new : List ℕ) (ps news : List Place) → new ≡ text ++ more → news ≡ ps ++ p ∷ [] → All (ListsAt text) ps → contents_at new news ≡ contents_at text ps ++ bags_of more ∷ []
    bags_more new ps news is grown h =
        ap (contents_at new) grown ∙ map-append (bags_there new) ps (p ∷ [])
        ∙ ap₂ (λ (xs : List (List SafeBag)) (x : List SafeBag). xs ++ x ∷ []) (bags_same new ps is h) (ap (λ t. bags_of (at_place p t)) is ∙ ap bags_of (behind p start len))

-- A slice is what is at its place.
pub slice_at : (p : Place) (text : List ℕ) → slice_range text p.start (p.start + p.len) ≡ at_place p text
slice_at p text = let n : p.start + p.len - p.start ≡ p.len = omega arith in ap (λ k. take k (drop p.start text)) n

-- ---- A text of its own

-- A copy of a text that lists bags lists them.
pub copy_lists : (slice text copy : List ℕ) → slice ≡ text → copy ≡ slice → ListsBags slice → IsBags text (bags_of copy)
copy_lists slice text copy is same h =
    subst (λ t. IsBags text (bags_of t)) (sym (same ∙ is)) (listed text (subst ListsBags is h))

-- The bags at an index, whatever stands for none.
pub is_at : (gss : List (List SafeBag)) (i : ℕ) (gs : List SafeBag) → i < length gss → gs ≡ get_or gss i [] → gs ≡ get_or gss i gs
is_at gss i gs lt is = is ∙ get_or_default gss i [] gs lt

-- ---- Texts of private keys

pub keys_are_texts : (f : Forms) (ks : List EncryptedPrivateKeyInfo) (texts : List (List ℕ)) → Each (LegacyKeyOpens f) ks texts → All IsKeyText texts
keys_are_texts f [] [] e = All-nil IsKeyText
keys_are_texts f [] (t ∷ ts) e = absurd e
keys_are_texts f (k ∷ ks) [] e = absurd e
keys_are_texts f (k ∷ ks) (t ∷ ts) e = All-cons IsKeyText t ts e.0.1 (keys_are_texts f ks ts e.1)

pub keys_stored : (texts : List (List ℕ)) → All IsKeyText texts → All (λ t. length t ≤ store_limit) texts → All IsStoredKey texts
keys_stored texts are short = λ k d lt. (λ none. none (are k d lt).0 (are k d lt).1, short k d lt)

pub short_by : (slice keys : List (List ℕ)) → slice ≡ keys → All (λ t. length t ≤ store_limit) slice → All (λ t. length t ≤ store_limit) keys
short_by slice keys is h = subst (All (λ (t : List ℕ). length t ≤ store_limit)) is h

-- ---- A list of contents in DER

pub der_is_in_der : (v e : List ℕ) (cs : List ContentInfo) → e ≡ v → IsContents v cs → IsSafeInDer v e
unfolding IsLegacySafe
der_is_in_der v e cs is h = (cs, inl h, subst (λ t. IsContents t cs) (sym is) h)

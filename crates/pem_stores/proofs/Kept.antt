-- Each certificate of a text is in the store that is made of it, and each one in the store is of the text.
use Rattle.std.proofs.Common.{◌≡◌, ◌∙◌, ◌<◌, ℕ, zero, suc, Bool, true, false, cond, List, [], ◌∷◌, ◌++◌, length, map, take, refl, sym, ap, subst, arith, inl, inr, append_assoc, bytes_eq, nat_lt, remove, slice_get}
use Rattle.std.specs.Prelude.{◌+◌, ◌-◌, ◌||◌, ◌==◌, Option, Some, None}
use Rattle.std.specs.List.{list_any, range_with_len}
use Rattle.std.proofs.lemmas.Bool.{eqb-true, ltb-true}
use Rattle.std.proofs.lemmas.List.{length-append, map-append}
use Rattle.std.proofs.lemmas.List.Folds.{list_any-append}
use Rattle.std.proofs.lemmas.Slice.Eq.{bytes_eq-Decides}
use Rattle.create_core.specs.Laws.{OpensToNothingElse, keys_of}
use Rattle.create_core.specs.declared.entry.CertificateEntry.{CertificateEntry}
use Rattle.create_core.specs.declared.entry.KeyEntry.{KeyEntry}
use Rattle.inventory_core.specs.Chains.{has}
use Rattle.pem_stores.specs.ChainOrder.{IsOrder, with_fresh, with_next}
use Rattle.pem_stores.specs.EachOnce.{has_octets, with_new, with_one}
use Rattle.pem_stores.specs.Entries.{IsEntryWith, all_once, certificates_at, unnamed}
use Rattle.pem_stores.specs.Laws.{CertificatesAreKept, StoresKeepTexts}
use Rattle.pem_stores.specs.Texts.{AreEntries}
use Rattle.pem_stores.specs.declared.ownership.OwnEntry.{OwnEntry}
use Rattle.pem_stores.specs.declared.text_entries.TextEntries.{TextEntries}

-- ---- either of two

or_none : (p : Bool) → (p || false) ≡ p
or_none true = refl
or_none false = refl

or_once : (p q r : Bool) → ((p || q) || r) ≡ (p || (q || r))
or_once true q r = refl
or_once false q r = refl

or_other : (p q r : Bool) → (p || (q || r)) ≡ (q || (p || r))
or_other true true r = refl
or_other true false r = refl
or_other false true r = refl
or_other false false r = refl

or_twice : (p q : Bool) → (p || (p || q)) ≡ (p || q)
or_twice true q = refl
or_twice false q = refl

-- what is among the first already
or_there : (p q r : Bool) → p ≡ r → ((p || q) || r) ≡ (p || q)
or_there true q r h = refl
or_there false q true h = absurd cc
or_there false q false h = or_none q

or_before : (p q r : Bool) → r ≡ p → (p || q) ≡ (p || (q || r))
or_before true q r h = refl
or_before false q true h = absurd cc
or_before false q false h = sym (or_none q)

-- ---- one more element that is there

module _ {X : Type 0} (e : X → X → Bool) (f : X → Bool) (tells : (x y : X) → e x y ≡ true → x ≡ y) where
  absorb_by : (x : X) (xs : List X) (y : X) (t : Bool) → e x y ≡ t → (t || list_any (λ i. e i y) xs) ≡ true → (list_any (λ i. e i y) xs ≡ true → (list_any f xs || f y) ≡ list_any f xs)
      → ((f x || list_any f xs) || f y) ≡ (f x || list_any f xs)
  absorb_by x xs y true is there rest = or_there (f x) (list_any f xs) (f y) (ap f (tells x y is))
  absorb_by x xs y false is there rest = or_once (f x) (list_any f xs) (f y) ∙ ap (λ t. f x || t) (rest there)

  absorbed : (xs : List X) (y : X) → list_any (λ x. e x y) xs ≡ true → (list_any f xs || f y) ≡ list_any f xs
  absorbed [] y h = absurd cc
  absorbed (x ∷ xs) y h = absorb_by x xs y (e x y) refl h (λ there. absorbed xs y there)

taken_out : {X : Type 0} (f : X → Bool) (xs : List X) (place : ℕ) (x : X) → slice_get xs place ≡ Some x → list_any f xs ≡ (f x || list_any f (remove xs place))
taken_out f [] place x h = absurd cc
taken_out f (y ∷ xs) zero x h = let same : y ≡ x = cc in ap (λ z. f z || list_any f xs) same
taken_out f (y ∷ xs) (suc place) x h = ap (λ t. f y || t) (taken_out f xs place x h) ∙ or_other (f y) (f x) (list_any f (remove xs place))

-- ---- certificates, each once

module _ (b : List ℕ) where
  abbrev is_it : List ℕ → Bool
  is_it c = bytes_eq c b

  one_by : (sofar : List (List ℕ)) (c : List ℕ) (t : Bool) → has_octets sofar c ≡ t → list_any is_it (cond t sofar (sofar ++ c ∷ [])) ≡ (list_any is_it sofar || is_it c)
  one_by sofar c true h = sym (absorbed bytes_eq is_it (λ x y. (bytes_eq-Decides x y).0) sofar c h)
  one_by sofar c false h = list_any-append is_it sofar (c ∷ []) ∙ ap (λ t. list_any is_it sofar || t) (or_none (is_it c))

  new_any : (sofar cs : List (List ℕ)) → list_any is_it (with_new sofar cs) ≡ (list_any is_it sofar || list_any is_it cs)
  new_any sofar [] = sym (or_none (list_any is_it sofar))
  new_any sofar (c ∷ cs) =
      new_any (with_one sofar c) cs ∙ ap (λ t. t || list_any is_it cs) (one_by sofar c (has_octets sofar c) refl) ∙ or_once (list_any is_it sofar) (is_it c) (list_any is_it cs)

-- the first stays the first
first_by : (c d : List ℕ) (sofar cs : List (List ℕ)) (t : Bool) → slice_get (with_new (c ∷ sofar) cs) 0 ≡ Some c → slice_get (with_new (c ∷ (sofar ++ d ∷ [])) cs) 0 ≡ Some c
    → slice_get (with_new (cond t (c ∷ sofar) ((c ∷ sofar) ++ d ∷ [])) cs) 0 ≡ Some c
first_by c d sofar cs true stays grows = stays
first_by c d sofar cs false stays grows = grows

new_first : (c : List ℕ) (sofar cs : List (List ℕ)) → slice_get (with_new (c ∷ sofar) cs) 0 ≡ Some c
new_first c sofar [] = refl
new_first c sofar (d ∷ cs) = first_by c d sofar cs (has_octets (c ∷ sofar) d) (new_first c sofar cs) (new_first c (sofar ++ d ∷ []) cs)

-- ---- certificates at places

module _ (f : List ℕ → Bool) where
  abbrev hit : Option (List ℕ) → Bool
  hit (Some c) = f c
  hit None = false

  hit_one : (o : Option (List ℕ)) → list_any f (map (λ (c : CertificateEntry). c.certificate) (unnamed o)) ≡ hit o
  hit_one (Some c) = or_none (f c)
  hit_one None = refl

  at_any : (all : List (List ℕ)) (places : List ℕ) → list_any f (map (λ (c : CertificateEntry). c.certificate) (certificates_at all places)) ≡ list_any (λ i. hit (slice_get all i)) places
  at_any all [] = refl
  at_any all (p ∷ ps) =
      let first = unnamed (slice_get all p) in
      ap (list_any f) (map-append (λ (c : CertificateEntry). c.certificate) first (certificates_at all ps))
      ∙ list_any-append f (map (λ (c : CertificateEntry). c.certificate) first) (map (λ (c : CertificateEntry). c.certificate) (certificates_at all ps))
      ∙ ap (λ t. t || list_any f (map (λ (c : CertificateEntry). c.certificate) (certificates_at all ps))) (hit_one (slice_get all p))
      ∙ ap (λ t. hit (slice_get all p) || t) (at_any all ps)

  hit_within : (all : List (List ℕ)) (i : ℕ) → (hit (slice_get all i) || list_any f all) ≡ list_any f all
  hit_within [] i = refl
  hit_within (c ∷ all) zero = or_twice (f c) (list_any f all)
  hit_within (c ∷ all) (suc i) = or_other (hit (slice_get all i)) (f c) (list_any f all) ∙ ap (λ t. f c || t) (hit_within all i)

  -- what is at some places is there
  hits_within : (all : List (List ℕ)) (places : List ℕ) → (list_any (λ i. hit (slice_get all i)) places || list_any f all) ≡ list_any f all
  hits_within all [] = refl
  hits_within all (p ∷ ps) = or_once (hit (slice_get all p)) (list_any (λ i. hit (slice_get all i)) ps) (list_any f all) ∙ ap (λ t. hit (slice_get all p) || t) (hits_within all ps) ∙ hit_within all p

  slice_next : (before : List (List ℕ)) (c : List ℕ) (after : List (List ℕ)) → slice_get (before ++ c ∷ after) (length before) ≡ Some c
  slice_next [] c after = refl
  slice_next (d ∷ before) c after = slice_next before c after

  -- and at all places from one on there is all that comes from there on
  range_any : (before after : List (List ℕ)) → list_any (λ i. hit (slice_get (before ++ after) i)) (range_with_len (length before) (length after)) ≡ list_any f after
  range_any before [] = refl
  range_any before (c ∷ after) =
      let more : (before ++ c ∷ []) ++ after ≡ before ++ c ∷ after = append_assoc before (c ∷ []) after in
      let count : length (before ++ c ∷ []) ≡ length before + 1 = omega (arith, length-append before (c ∷ [])) in
      let rest : list_any (λ i. hit (slice_get (before ++ c ∷ after) i)) (range_with_len (length before + 1) (length after)) ≡ list_any f after =
      subst (λ (n : ℕ). list_any (λ i. hit (slice_get (before ++ c ∷ after) i)) (range_with_len n (length after)) ≡ list_any f after) count
      (subst (λ (all : List (List ℕ)). list_any (λ i. hit (slice_get all i)) (range_with_len (length (before ++ c ∷ [])) (length after)) ≡ list_any f after) more (range_any (before ++ c ∷ []) after)) in
      ap (λ o. hit o || list_any (λ i. hit (slice_get (before ++ c ∷ after) i)) (range_with_len (length before + 1) (length after))) (slice_next before c after) ∙ ap (λ t. f c || t) rest

-- ---- places that are added

module _ (first : Bool) (g : ℕ → Bool) (is : g 0 ≡ first) where
  next_low : (sofar : List ℕ) (k : ℕ) → k < 1 → (first || list_any g sofar) ≡ (first || (list_any g sofar || g k))
  next_low sofar zero low = or_before first (list_any g sofar) (g 0) is
  next_low sofar (suc k) low = absurd (omega (arith, low))

  next_by : (sofar : List ℕ) (k : ℕ) (t u : Bool) → nat_lt k 1 ≡ t → has sofar k ≡ u → (first || list_any g (cond t sofar (cond u sofar (sofar ++ k ∷ [])))) ≡ (first || (list_any g sofar || g k))
  next_by sofar k true u low there = next_low sofar k (ltb-true k 1 low)
  next_by sofar k false true low there = ap (λ t. first || t) (sym (absorbed (λ (x y : ℕ). x == y) g eqb-true sofar k there))
  next_by sofar k false false low there = ap (λ t. first || t) (list_any-append g sofar (k ∷ []) ∙ ap (λ t. list_any g sofar || t) (or_none (g k)))

  fresh_any : (sofar ks : List ℕ) → (first || list_any g (with_fresh 1 sofar ks)) ≡ (first || (list_any g sofar || list_any g ks))
  fresh_any sofar [] = ap (λ t. first || t) (sym (or_none (list_any g sofar)))
  fresh_any sofar (k ∷ ks) =
      fresh_any (with_next 1 sofar k) ks ∙ sym (or_once first (list_any g (with_next 1 sofar k)) (list_any g ks))
      ∙ ap (λ t. t || list_any g ks) (next_by sofar k (nat_lt k 1) (has sofar k) refl refl)
      ∙ or_once first (list_any g sofar || g k) (list_any g ks) ∙ ap (λ t. first || t) (or_once (list_any g sofar) (g k) (list_any g ks))

-- ---- all certificates

-- the first one and those at the places of an order are all
order_any : (f : List ℕ → Bool) (all : List (List ℕ)) (c : List ℕ) (places : List ℕ) (chained : ℕ) → slice_get all 0 ≡ Some c → IsOrder all 1 places chained
    → (f c || list_any (λ i. hit f (slice_get all i)) places) ≡ list_any f all
order_any f [] c places chained h o = absurd cc
order_any f (d ∷ all) c places chained h o =
    let same : d ≡ c = cc in
    let g : ℕ → Bool = λ i. hit f (slice_get (d ∷ all) i) in
    let chain = take chained places in
    let rest = range_with_len 1 (length all) in
    let there : list_any g rest ≡ list_any f all = range_any f (d ∷ []) all in
    let count : length (d ∷ all) - 1 ≡ length all = omega arith in
    ap (λ l. f c || list_any g l) (o.all ∙ ap (λ (n : ℕ). with_fresh 1 chain (range_with_len 1 n)) count) ∙ fresh_any (f c) g (ap f same) chain rest
    ∙ or_other (f c) (list_any g chain) (list_any g rest)
    ∙ ap (λ t. list_any g chain || (f c || t)) there
    ∙ ap (λ x. list_any g chain || (f x || list_any f all)) (sym same)
    ∙ hits_within f (d ∷ all) chain

module _ (b : List ℕ) (all : List (List ℕ)) (place : ℕ) (key : List ℕ) (name : Option (List ℕ)) (o : OwnEntry) (is : IsEntryWith key all place name o) (places : List ℕ) (chained : ℕ) where
  store_any : IsOrder (all_once (o.entry ∷ []) o.others.items) 1 places chained
      → (is_it b o.entry.certificate || list_any (λ i. hit (is_it b) (slice_get (all_once (o.entry ∷ []) o.others.items) i)) places) ≡ list_any (is_it b) all
  store_any order =
      order_any (is_it b) (all_once (o.entry ∷ []) o.others.items) o.entry.certificate places chained (new_first o.entry.certificate [] o.others.items) order
      ∙ new_any b (o.entry.certificate ∷ []) o.others.items ∙ ap (λ t. t || list_any (is_it b) o.others.items) (or_none (is_it b o.entry.certificate))
      ∙ ap (λ l. is_it b o.entry.certificate || list_any (is_it b) l) is.others ∙ sym (taken_out (is_it b) all place o.entry.certificate is.certificate)

entry_of : (key certificates : List ℕ) (name password : Option (List ℕ)) (limit : ℕ) (e : TextEntries) (h : AreEntries key certificates name password limit e) → (place : ℕ) × IsEntryWith h.key_text h.all place name h.own
entry_of key certificates name password limit e h = elim h.owned [ inl w ↦ (w.0, w.2) | inr w ↦ (w.0, w.2) ]

pub certificates_are_kept : CertificatesAreKept
certificates_are_kept key certificates name password limit e h b =
    let o = h.own in
    let f = h.entered.further in
    let once = all_once (o.entry ∷ []) o.others.items in
    let own : map (λ (k : KeyEntry). k.certificate) e.keys.items ≡ o.entry.certificate ∷ [] = ap (λ ks. map (λ (k : KeyEntry). k.certificate) ks) h.entered.keys in
    let place = entry_of key certificates name password limit e h in
    ap (λ l. list_any (is_it b) (l ++ map (λ (c : CertificateEntry). c.certificate) e.further.certificates.items)) own
    ∙ ap (λ l. is_it b o.entry.certificate || list_any (is_it b) (map (λ (c : CertificateEntry). c.certificate) l)) f.are
    ∙ ap (λ t. is_it b o.entry.certificate || t) (at_any (is_it b) once f.places)
    ∙ store_any b h.all place.0 h.key_text name o place.1 f.places f.chained f.order

pub stores_keep_texts : OpensToNothingElse → StoresKeepTexts
stores_keep_texts nothing_else key certificates name password limit e h p r drawn b some most made gss ks n opens =
    let only = nothing_else e.keys.items e.further.certificates.items p r drawn b some most made gss ks n opens in
    let place = entry_of key certificates name password limit e h in (
      only.0 ∙ ap keys_of h.entered.keys ∙ ap (λ k. k ∷ []) place.1.is_key,
      λ c. ap (λ l. has_octets l c) only.1 ∙ certificates_are_kept key certificates name password limit e h c,
    )

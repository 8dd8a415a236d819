-- Entries after others.
use Rattle.std.proofs.Common.{◌≡◌, ℕ, zero, suc, List, [], ◌∷◌, ◌++◌, refl, sym, ap, ◌∙◌, subst}
use Rattle.std.specs.Prelude.{Some, None, false}
use Rattle.std.specs.List.{All, slice_get}
use Rattle.std.specs.Map.{keys_of}
use Rattle.std.specs.BTreeMap.{insert_entry}
use Rattle.std.specs.Ordering.{is_lt, match_ordering, nat_cmp, ordering_reverse}
use Rattle.std.specs.declared.cmp.Ordering.{Ordering}
use Rattle.std.specs.declared.cmp.Ordering.TheVariants.{Less, Equal, Greater}
use Rattle.std.specs.Cmp.Lexicographic.{nat_list_cmp_total, slice_cmp}
use Rattle.std.proofs.lemmas.List.Elements.{All-head, All-tail}
use Rattle.passdb_core.specs.Entry.{Entry}
use Rattle.passdb_core.specs.Entries.{Above, Entries}

abbrev R : List ℕ → List ℕ → Ordering
R = slice_cmp nat_cmp

below : (p q k : List ℕ) (o : Ordering) → R p q ≡ o → is_lt o ≡ false → R p k ≡ Less → R q k ≡ Less
below p q k Less e f h = absurd cc
below p q k Equal e f h = sym (nat_list_cmp_total.congr p q k e) ∙ h
below p q k Greater e f h = nat_list_cmp_total.trans q p k (nat_list_cmp_total.antisymm q p ∙ ap ordering_reverse e) h

pub all_above : (p k : List ℕ) (es : Entries) → All (λ q. is_lt (R p q) ≡ false) (keys_of es) → R p k ≡ Less → Above es k
all_above p k [] a h = tt
all_above p k (e ∷ es) a h =
    (below p e.0 k (R p e.0) refl (All-head (λ q. is_lt (R p q) ≡ false) e.0 (keys_of es) a) h, all_above p k es (All-tail (λ q. is_lt (R p q) ≡ false) e.0 (keys_of es) a) h)

pub insert_last : (es : Entries) (k : List ℕ) (v : Entry) → Above es k → insert_entry R es k v ≡ es ++ (k, v) ∷ []
insert_last [] k v a = refl
insert_last (e ∷ es) k v a =
    let greater : R k e.0 ≡ Greater = nat_list_cmp_total.antisymm k e.0 ∙ ap ordering_reverse a.0 in
    ap (λ o. match_ordering o ((k, v) ∷ e ∷ es) ((e.0, v) ∷ es) (e ∷ insert_entry R es k v)) greater ∙ ap (λ t. e ∷ t) (insert_last es k v a.1)

pub above_at : (es : Entries) (i : ℕ) (e : List ℕ × Entry) (k : List ℕ) → slice_get es i ≡ Some e → Above es k → R e.0 k ≡ Less
above_at [] i e k at a = absurd (let no_one : None ≡ Some e = at in cc)
above_at (f ∷ es) zero e k at a = let same : f ≡ e = cc in subst (λ x. R x.0 k ≡ Less) same a.0
above_at (f ∷ es) (suc i) e k at a = above_at es i e k at a.1

-- Lists up to their order.
use Rattle.std.proofs.Common.{◌≡◌, ℕ, zero, suc, ◌+◌, Bool, true, false, cond, List, [], ◌∷◌, ◌++◌, length, set, map, refl, sym, ap, subst, ◌∙◌, inl, inr, ◌⊎◌, arith, get_or, IsPermutation, IsSorted}
use Rattle.std.specs.List.{sum_by}
use Rattle.std.specs.Str.{bytes_eq}
use Rattle.std.specs.Cmp.{upto}
use Rattle.std.specs.Cmp.Lexicographic.{slice_cmp, nat_list_cmp_total}
use Rattle.std.specs.Ordering.{nat_cmp, is_lt, is_eq, is_gt, ordering_reverse}
use Rattle.std.specs.declared.cmp.Ordering.{Ordering}
use Rattle.std.specs.declared.cmp.Ordering.TheVariants.{Less, Equal, Greater}
use Rattle.std.proofs.lemmas.Slice.Eq.{bytes_eq-Decides}
use Rattle.std.proofs.lemmas.Map.Text.{is_eq-slice_cmp}
use Rattle.std.proofs.lemmas.List.Sums.{sum_by-cons}
use Rattle.std.proofs.lemmas.List.Sorted.{length_permutation, sum_by-IsPermutation, IsPermutation-refl, IsPermutation-sym, IsPermutation-trans, IsPermutation-cons, IsPermutation-middle, IsPermutation-keeps, IsPermutation-swap, IsPermutation-map}
use Rattle.std.specs.List.{swap}
use Rattle.std.proofs.lemmas.List.{map-set, length-map}
use Rattle.std.proofs.Math.ListN.{get_or-map}
use Rattle.asn1_core.specs.Texts.{Many}
use Rattle.asn1_core.specs.Der.{joined}
use Rattle.asn1_core.specs.Sets.{SpellSet, Each, SameSet, put_in, in_order, Decodes, Other}

abbrev text_cmp : List ℕ → List ℕ → Ordering
text_cmp = slice_cmp nat_cmp

-- ---- one by one

pub each-refl : {A : Type 0} (S : A → A → Type 0) → ((x : A) → S x x) → (xs : List A) → Each S xs xs
each-refl S s [] = tt
each-refl S s (x ∷ xs) = (s x, each-refl S s xs)

-- through a list between
pub each-through : {A B C : Type 0} (R : A → B → Type 0) (S : B → C → Type 0) (Q : A → C → Type 0) → ((x : A) (y : B) (z : C) → R x y → S y z → Q x z) → (xs : List A) (ys : List B) (zs : List C) → Each R xs ys → Each S ys zs → Each Q xs zs
each-through R S Q h [] [] [] r s = tt
each-through R S Q h [] [] (z ∷ zs) r s = absurd s
each-through R S Q h [] (y ∷ ys) zs r s = absurd r
each-through R S Q h (x ∷ xs) [] zs r s = absurd r
each-through R S Q h (x ∷ xs) (y ∷ ys) [] r s = absurd s
each-through R S Q h (x ∷ xs) (y ∷ ys) (z ∷ zs) r s = (h x y z r.0 s.0, each-through R S Q h xs ys zs r.1 s.1)

-- a list between, out of one for each pair
pub each-split : {A B C : Type 0} (R : A → B → Type 0) (S : B → C → Type 0) (Q : A → C → Type 0) → ((x : A) (z : C) → Q x z → (y : B) × R x y × S y z) → (xs : List A) (zs : List C) → Each Q xs zs → (ys : List B) × Each R xs ys × Each S ys zs
each-split R S Q h [] [] q = ([], tt, tt)
each-split R S Q h [] (z ∷ zs) q = absurd q
each-split R S Q h (x ∷ xs) [] q = absurd q
each-split R S Q h (x ∷ xs) (z ∷ zs) q = let a = h x z q.0 in let r = each-split R S Q h xs zs q.1 in (a.0 ∷ r.0, (a.1, r.1), (a.2, r.2))

-- ---- pairs that are linked, and the same exchanges on both sides

record Link {A B : Type 0} (R : A → B → Type 0) : Type 0 where
  left : A
  right : B
  holds : R left right

map-swap : {A B : Type 0} (f : A → B) (l : List A) (i j : ℕ) → map f (swap l i j) ≡ swap (map f l) i j
map-swap f [] i j = refl
map-swap f (d ∷ ys) i j = let l = d ∷ ys in rw (map-set f (set l i (get_or l j d)) j (get_or l i d), map-set f l i (get_or l j d), sym (get_or-map f l j d), sym (get_or-map f l i d)) refl

module _ {A B : Type 0} (R : A → B → Type 0) where
  abbrev left_of : Link R → A
  left_of l = l.left

  abbrev right_of : Link R → B
  right_of l = l.right

  links : (xs : List A) (ys : List B) → Each R xs ys → (ls : List (Link R)) × (map left_of ls ≡ xs) × (map right_of ls ≡ ys)
  links [] [] r = ([], refl, refl)
  links [] (y ∷ ys) r = absurd r
  links (x ∷ xs) [] r = absurd r
  links (x ∷ xs) (y ∷ ys) r =
      let t = links xs ys r.1 in
      let l : Link R = record { left = x; right = y; holds = r.0 } in
      (l ∷ t.0, ap (λ (k : List A). x ∷ k) t.1, ap (λ (k : List B). y ∷ k) t.2)

  linked : (ls : List (Link R)) → Each R (map left_of ls) (map right_of ls)
  linked [] = tt
  linked (l ∷ ls) = (l.holds, linked ls)

  moved : (ls : List (Link R)) (xs : List A) → IsPermutation (map left_of ls) xs → (ks : List (Link R)) × IsPermutation ls ks × (map left_of ks ≡ xs)
  moved ls = IsPermutation-keeps (map left_of ls) (λ (l : List A). (ks : List (Link R)) × IsPermutation ls ks × (map left_of ks ≡ l)) (ls, IsPermutation-refl ls, refl)
      (λ l i j p q h.
      let n : length (map left_of h.0) ≡ length h.0 = length-map h.0 left_of in
      let m : length (map left_of h.0) ≡ length l = ap length h.2 in
      (swap h.0 i j, IsPermutation-trans ls h.0 (swap h.0 i j) h.1 (IsPermutation-swap h.0 (swap h.0 i j) i j (omega arith) (omega arith) refl), map-swap left_of h.0 i j ∙ ap (λ (k : List A). swap k i j) h.2))

  -- where one side is put in another order, so can the other side be
  pub each-permuted : (xs xs' : List A) (ys : List B) → Each R xs ys → IsPermutation xs xs' → (ys' : List B) × Each R xs' ys' × IsPermutation ys ys'
  each-permuted xs xs' ys r p =
      let l = links xs ys r in
      let m = moved l.0 xs' (subst (λ (k : List A). IsPermutation k xs') (sym l.1) p) in
      (map right_of m.0, subst (λ (k : List A). Each R k (map right_of m.0)) m.2 (linked m.0), subst (λ (k : List B). IsPermutation k (map right_of m.0)) l.2 (IsPermutation-map right_of l.0 m.0 m.1))

  pub each-swapped : (xs : List A) (ys : List B) → Each R xs ys → Each (λ y x. R x y) ys xs
  each-swapped [] [] r = tt
  each-swapped [] (y ∷ ys) r = absurd r
  each-swapped (x ∷ xs) [] r = absurd r
  each-swapped (x ∷ xs) (y ∷ ys) r = (r.0, each-swapped xs ys r.1)

-- ---- joined texts, one by one

pub many_texts : {A : Type 0} (R : List ℕ → A → Type 0) (b : List ℕ) (vs : List A) → Many R b vs → (ts : List (List ℕ)) × Each R ts vs × (b ≡ joined ts)
many_texts R b [] r = ([], tt, r)
many_texts R b (v ∷ vs) (p, q, h, m, e) = let t = many_texts R q vs m in (p ∷ t.0, (h, t.1), e ∙ ap (λ (x : List ℕ). p ++ x) t.2)

pub texts_many : {A : Type 0} (R : List ℕ → A → Type 0) (ts : List (List ℕ)) (vs : List A) → Each R ts vs → Many R (joined ts) vs
texts_many R [] [] r = refl
texts_many R [] (v ∷ vs) r = absurd r
texts_many R (t ∷ ts) [] r = absurd r
texts_many R (t ∷ ts) (v ∷ vs) r = (t, joined ts, r.0, texts_many R ts vs r.1, refl)

-- ---- THE FIBRE OF A SET: the texts of the values that are the same set are the joins of the values' texts in any order

module _ {A : Type 0} (R Spell : List ℕ → A → Type 0) (S : A → A → Type 0) where
  pub set_spelled : ((b : List ℕ) (v : A) → Decodes R S b v → Spell b v) → (b : List ℕ) (vs : List A) → Decodes (Many R) (SameSet S) b vs → SpellSet Spell b vs
  set_spelled h b vs (ws, m, (zs, p, s)) =
      let t = many_texts R b ws m in
      let k = each-permuted (λ w u. R u w) ws zs t.0 (each-swapped R t.0 ws t.1) p in
      let r = each-swapped (λ w u. R u w) zs k.0 k.1 in
      (k.0, t.0, each-through R S Spell (λ x y z a c. h x z (y, a, c)) k.0 zs vs r s, IsPermutation-sym t.0 k.0 k.2, t.2)

  pub spelled_set : ((b : List ℕ) (v : A) → Spell b v → Decodes R S b v) → (b : List ℕ) (vs : List A) → SpellSet Spell b vs → Decodes (Many R) (SameSet S) b vs
  spelled_set h b vs (ts, us, e, p, is) =
      let t = each-split R S Spell h ts vs e in
      let k = each-permuted R ts us t.0 t.1 p in
      (k.0, subst (λ (x : List ℕ). Many R x k.0) (sym is) (texts_many R us k.0 k.1), (t.0, IsPermutation-sym t.0 k.0 k.2, t.2))

-- ---- the order of texts

abbrev one_if : Bool → ℕ
one_if true = 1
one_if false = 0

abbrev below : List ℕ → List ℕ → ℕ
below x z = one_if (is_lt (text_cmp z x))

-- no text of the list is less than x
abbrev Least : List ℕ → List (List ℕ) → Type 0
Least x [] = Unit {0}
Least x (y ∷ ys) = (is_lt (text_cmp y x) ≡ false) × Least x ys

abbrev pub Ascends : List (List ℕ) → Type 0
Ascends [] = Unit {0}
Ascends (x ∷ xs) = Least x xs × Ascends xs

counts : (t : Bool) → one_if t ≡ 0 → t ≡ false
counts true e = absurd (omega (arith, e))
counts false e = refl

none_below : (x : List ℕ) (xs : List (List ℕ)) → Least x xs → sum_by (below x) xs ≡ 0
none_below x [] h = refl
none_below x (y ∷ ys) h = let rest = none_below x ys h.1 in let first : below x y ≡ 0 = ap one_if h.0 in omega (arith, sum_by-cons (below x) y ys, rest, first)

not_less : (o : Ordering) → is_lt o ≡ false → is_lt (ordering_reverse o) ≡ false → o ≡ Equal
not_less Less a b = absurd cc
not_less Equal a b = refl
not_less Greater a b = absurd cc

equal_texts : (x y : List ℕ) → is_lt (text_cmp x y) ≡ false → is_lt (text_cmp y x) ≡ false → x ≡ y
equal_texts x y a b =
    let turn : text_cmp y x ≡ ordering_reverse (text_cmp x y) = nat_list_cmp_total.antisymm y x in
    let same : text_cmp x y ≡ Equal = not_less (text_cmp x y) a (ap is_lt (sym turn) ∙ b) in
    (bytes_eq-Decides x y).0 (sym (is_eq-slice_cmp x y) ∙ ap is_eq same)

own : (x : List ℕ) → is_lt (text_cmp x x) ≡ false
own x = own_is (text_cmp x x) (nat_list_cmp_total.antisymm x x)
  where
    own_is : (o : Ordering) → o ≡ ordering_reverse o → is_lt o ≡ false
    own_is Less e = absurd cc
    own_is Equal e = refl
    own_is Greater e = refl

front_least : (x : List ℕ) (xs : List (List ℕ)) (y : List ℕ) (ys : List (List ℕ)) → ((f : List ℕ → ℕ) → sum_by f (x ∷ xs) ≡ sum_by f (y ∷ ys)) → Least x xs → is_lt (text_cmp y x) ≡ false
front_least x xs y ys sums h =
    let none : sum_by (below x) (x ∷ xs) ≡ 0 = none_below x (x ∷ xs) (own x, h) in
    let more = sum_by-cons (below x) y ys in
    counts (is_lt (text_cmp y x)) (omega (arith, sums (below x), none, more))

-- lists that ascend and have the same elements are equal
pub ascends_once : (xs ys : List (List ℕ)) → ((f : List ℕ → ℕ) → sum_by f xs ≡ sum_by f ys) → Ascends xs → Ascends ys → xs ≡ ys
ascends_once [] [] sums a b = refl
ascends_once [] (y ∷ ys) sums a b = absurd (omega (arith, sums (λ z. 1), sum_by-cons (λ z. 1) y ys))
ascends_once (x ∷ xs) [] sums a b = absurd (omega (arith, sums (λ z. 1), sum_by-cons (λ z. 1) x xs))
ascends_once (x ∷ xs) (y ∷ ys) sums a b =
    let is : x ≡ y = equal_texts x y (front_least y ys x xs (λ f. sym (sums f)) b.0) (front_least x xs y ys sums a.0) in
    let rest = ascends_once xs ys (λ f. omega (arith, sums f, sum_by-cons f x xs, sum_by-cons f y ys, ap f is)) a.1 b.1 in
    ap (λ (z : List ℕ). z ∷ xs) is ∙ ap (λ (l : List (List ℕ)). y ∷ l) rest

pub put_in-permutes : (x : List ℕ) (l : List (List ℕ)) → IsPermutation (x ∷ l) (put_in x l)
unfolding put_in
put_in-permutes x [] = IsPermutation-refl (x ∷ [])
put_in-permutes x (y ∷ ys) = elim (is_lt (text_cmp y x)) as (λ t. IsPermutation (x ∷ y ∷ ys) (cond t (y ∷ put_in x ys) (x ∷ y ∷ ys))) [
  | true ↦ IsPermutation-trans _ _ _ (IsPermutation-sym _ _ (IsPermutation-middle (y ∷ []) x ys)) (IsPermutation-cons y _ _ (put_in-permutes x ys))
  | false ↦ IsPermutation-refl (x ∷ y ∷ ys)
]

pub in_order-permutes : (xs : List (List ℕ)) → IsPermutation xs (in_order xs)
unfolding in_order
in_order-permutes [] = IsPermutation-refl []
in_order-permutes (x ∷ xs) = IsPermutation-trans _ _ _ (IsPermutation-cons x xs (in_order xs) (in_order-permutes xs)) (put_in-permutes x (in_order xs))

-- ---- the canonical text and the others

module _ {A : Type 0} (Spell : List ℕ → A → Type 0) (canon : A → List ℕ) where
  pub told_apart : (b : List ℕ) (v : A) → Spell b v → (b ≡ canon v) ⊎ Other Spell canon b v
  told_apart b v s = by_test (bytes_eq b (canon v)) refl
    where
      by_test : (t : Bool) → bytes_eq b (canon v) ≡ t → (b ≡ canon v) ⊎ Other Spell canon b v
      by_test true e = inl ((bytes_eq-Decides b (canon v)).0 e)
      by_test false e = inr (s, λ is. let yes = (bytes_eq-Decides b (canon v)).1 is in absurd cc)

  pub told_back : (b : List ℕ) (v : A) → Spell (canon v) v → (b ≡ canon v) ⊎ Other Spell canon b v → Spell b v
  told_back b v s (inl e) = subst (λ (x : List ℕ). Spell x v) (sym e) s
  told_back b v s (inr o) = o.0

-- the same as an empty set is empty
pub same_nothing : {A : Type 0} (S : A → A → Type 0) (xs ys : List A) → SameSet S xs ys → xs ≡ [] → ys ≡ []
same_nothing S xs [] s e = refl
same_nothing S xs (y ∷ ys) ([], p, h) e = absurd h
same_nothing S xs (y ∷ ys) (z ∷ zs, p, h) e = absurd (omega (arith, length_permutation xs (z ∷ zs) p, ap length e))

pub SameSet-refl : {A : Type 0} (S : A → A → Type 0) → ((x : A) → S x x) → (xs : List A) → SameSet S xs xs
SameSet-refl S s xs = (xs, IsPermutation-refl xs, each-refl S s xs)

-- ---- what a sort gives is the canonical order

least_chain : (x y : List ℕ) (l : List (List ℕ)) → is_lt (text_cmp y x) ≡ false → Least y l → Least x l
least_chain x y [] e h = tt
least_chain x y (z ∷ l) e h = (chained (is_gt_of x y e) (is_gt_of y z h.0), least_chain x y l e h.1)
  where
    turned : (o : Ordering) → is_lt (ordering_reverse o) ≡ is_gt o
    turned Less = refl
    turned Equal = refl
    turned Greater = refl

    is_gt_of : (a b : List ℕ) → is_lt (text_cmp b a) ≡ false → is_gt (text_cmp a b) ≡ false
    is_gt_of a b f = sym (turned (text_cmp a b)) ∙ ap is_lt (sym (nat_list_cmp_total.antisymm b a)) ∙ f

    chained : is_gt (text_cmp x y) ≡ false → is_gt (text_cmp y z) ≡ false → is_lt (text_cmp z x) ≡ false
    chained f g = ap is_lt (nat_list_cmp_total.antisymm z x) ∙ turned (text_cmp x z) ∙ upto nat_list_cmp_total x y z f g

least_put : (x y : List ℕ) (l : List (List ℕ)) → is_lt (text_cmp y x) ≡ false → Least x l → Least x (put_in y l)
unfolding put_in
least_put x y [] e h = (e, tt)
least_put x y (z ∷ l) e h = elim (is_lt (text_cmp z y)) as (λ t. Least x (cond t (z ∷ put_in y l) (y ∷ z ∷ l))) [
  | true ↦ (h.0, least_put x y l e h.1)
  | false ↦ (e, h)
]

lt_back : (x y : List ℕ) → is_lt (text_cmp y x) ≡ true → is_lt (text_cmp x y) ≡ false
lt_back x y e = ap is_lt (nat_list_cmp_total.antisymm x y) ∙ not_both (text_cmp y x) e
  where
    not_both : (o : Ordering) → is_lt o ≡ true → is_lt (ordering_reverse o) ≡ false
    not_both Less f = refl
    not_both Equal f = absurd cc
    not_both Greater f = absurd cc

put_in-ascends : (x : List ℕ) (l : List (List ℕ)) → Ascends l → Ascends (put_in x l)
unfolding put_in
put_in-ascends x [] h = (tt, tt)
put_in-ascends x (y ∷ l) h = by_test (is_lt (text_cmp y x)) (put_in-ascends x l h.1) refl
  where
    by_test : (t : Bool) → Ascends (put_in x l) → is_lt (text_cmp y x) ≡ t → Ascends (cond t (y ∷ put_in x l) (x ∷ y ∷ l))
    by_test true r e = (least_put y x l (lt_back x y e) h.0, r)
    by_test false r e = ((e, least_chain x y l e h.0), h)

in_order-ascends : (xs : List (List ℕ)) → Ascends (in_order xs)
unfolding in_order
in_order-ascends [] = tt
in_order-ascends (x ∷ xs) = put_in-ascends x (in_order xs) (in_order-ascends xs)

ascends_of : (xs : List (List ℕ)) → IsSorted text_cmp xs → Ascends xs
ascends_of [] h = tt
ascends_of (x ∷ []) h = (tt, tt)
ascends_of (x ∷ y ∷ l) h =
    let first : is_lt (text_cmp y x) ≡ false = h 0 x (omega arith) (omega arith) in
    let rest = ascends_of (y ∷ l) (λ k d p q. let e : suc k + 1 ≡ suc (k + 1) = omega arith in subst (λ (n : ℕ). is_lt (text_cmp (get_or (x ∷ y ∷ l) n d) (get_or (y ∷ l) k d)) ≡ false) e (h (suc k) d (omega arith) (omega arith))) in
    ((first, least_chain x y l first rest.0), rest)

-- texts that ascend are sorted, as the standard library has it
sorted_of : (xs : List (List ℕ)) → Ascends xs → IsSorted text_cmp xs
sorted_of [] h k d p q = absurd (omega arith)
sorted_of (x ∷ []) h k d p q = absurd (omega arith)
sorted_of (x ∷ y ∷ l) h zero d p q = h.0.0
sorted_of (x ∷ y ∷ l) h (suc k) d p q =
    let e : suc k + 1 ≡ suc (k + 1) = omega arith in
    let r = sorted_of (y ∷ l) h.1 k d (omega arith) (omega arith) in
    subst (λ (n : ℕ). is_lt (text_cmp (get_or (x ∷ y ∷ l) n d) (get_or (y ∷ l) k d)) ≡ false) (sym e) r

pub in_order-sorted : (xs : List (List ℕ)) → IsSorted text_cmp (in_order xs)
in_order-sorted xs = sorted_of (in_order xs) (in_order-ascends xs)

pub sorted_is_in_order : (xs ys : List (List ℕ)) → IsPermutation xs ys → IsSorted text_cmp ys → ys ≡ in_order xs
sorted_is_in_order xs ys p h =
    ascends_once ys (in_order xs) (λ f. sum_by-IsPermutation f xs ys p ∙ sym (sum_by-IsPermutation f xs (in_order xs) (in_order-permutes xs))) (ascends_of ys h) (in_order-ascends xs)

-- ---- values that are sorted by the octets that f gives of each

module _ {A : Type 0} (f : A → List ℕ) where
  views_ascend : (xs : List A) → IsSorted (λ x y. text_cmp (f x) (f y)) xs → Ascends (map f xs)
  views_ascend [] h = tt
  views_ascend (x ∷ []) h = (tt, tt)
  views_ascend (x ∷ y ∷ l) h =
      let first : is_lt (text_cmp (f y) (f x)) ≡ false = h 0 x (omega arith) (omega arith) in
      let rest = views_ascend (y ∷ l) (λ k d p q. let e : suc k + 1 ≡ suc (k + 1) = omega arith in subst (λ (n : ℕ). is_lt (text_cmp (f (get_or (x ∷ y ∷ l) n d)) (f (get_or (y ∷ l) k d))) ≡ false) e (h (suc k) d (omega arith) (omega arith))) in
      ((first, least_chain (f x) (f y) (map f l) first rest.0), rest)

  pub sorted_views : (old new : List A) → IsPermutation old new → IsSorted (λ x y. text_cmp (f x) (f y)) new → map f new ≡ in_order (map f old)
  sorted_views old new p h =
      ascends_once (map f new) (in_order (map f old)) (λ g. sum_by-IsPermutation g (map f old) (map f new) (IsPermutation-map f old new p) ∙ sym (sum_by-IsPermutation g (map f old) (in_order (map f old)) (in_order-permutes (map f old)))) (views_ascend new h) (in_order-ascends (map f old))

-- Opening in place: what is elsewhere stays, and places lie one after the other.
use Rattle.std.proofs.Common.{ℕ, ◌≡◌, ◌+◌, ◌-◌, ◌≤◌, List, [], ◌∷◌, ◌++◌, length, take, drop, refl, sym, ap, ◌∙◌, arith, subst}
use Rattle.std.specs.Prelude.{Option, Some, IfSome, map, slice_range}
use Rattle.std.proofs.lemmas.List.{take-take, drop-take, drop-drop}
use Rattle.std.proofs.Math.Seq.{take-append_seam}
use Rattle.p12.specs.Place.{at_place}
use Rattle.p12.specs.declared.place.Place.{Place}
use Rattle.transfer.specs.InPlace.{InOrder, Kept}

pub if_at : {A : Type 0} (P : A → Type 0) (o : Option A) (x : A) → o ≡ Some x → IfSome o P → P x
if_at P o x e h = subst (λ o. IfSome o P) e h

-- ---- One place

-- What is before or after a change stands as it stood.
pub place_before : (p : Place) (from : ℕ) (old new : List ℕ) → p.start + p.len ≤ from → take from new ≡ take from old → at_place p new ≡ at_place p old
place_before p from old new h e =
    let cut : (b : List ℕ) → at_place p b ≡ drop p.start (take (p.start + p.len) (take from b)) = λ b. sym (drop-take p.start p.len b) ∙ ap (drop p.start) (sym (take-take (p.start + p.len) from b h)) in
    cut new ∙ ap (λ (t : List ℕ). drop p.start (take (p.start + p.len) t)) e ∙ sym (cut old)

drop_more : (a b : ℕ) (x : List ℕ) → drop (a + b) x ≡ drop b (drop a x)
drop_more a b x = sym (drop-drop b a x)

pub drop_on : (a b : ℕ) (x y : List ℕ) → a ≤ b → drop a x ≡ drop a y → drop b x ≡ drop b y
drop_on a b x y h e =
    let n : b ≡ a + (b - a) = omega (arith, h) in
    ap (λ (k : ℕ). drop k x) n ∙ drop_more a (b - a) x ∙ ap (drop (b - a)) e ∙ sym (drop_more a (b - a) y) ∙ ap (λ (k : ℕ). drop k y) (sym n)

pub place_behind : (p : Place) (to : ℕ) (old new : List ℕ) → to ≤ p.start → drop to new ≡ drop to old → at_place p new ≡ at_place p old
place_behind p to old new h e = ap (take p.len) (drop_on to p.start new old h e)

pub kept_wider : (from s e to : ℕ) (old new : List ℕ) → from ≤ s → e ≤ to → Kept s e old new → Kept from to old new
kept_wider from s e to old new h i k = (sym (take-take from s new h) ∙ ap (take from) k.0 ∙ take-take from s old h, drop_on e to new old i k.1)

-- A slice is what is at its place.
pub between_place : (p : Place) (b : List ℕ) → slice_range b p.start (p.start + p.len) ≡ at_place p b
between_place p b = let n : p.start + p.len - p.start ≡ p.len = omega arith in ap (λ (k : ℕ). take k (drop p.start b)) n

-- ---- Places in order

pub order_more : (from mid to : ℕ) (ps : List Place) (p : Place) → from ≤ mid → InOrder from ps mid → mid ≤ p.start → p.start + p.len ≤ to → InOrder from (ps ++ p ∷ []) to
order_more from mid to [] p f o h i = (omega (arith, f, h), i, tt)
order_more from mid to (q ∷ ps) p f o h i = (o.0, omega (arith, o.1, h, i), order_more (q.start + q.len) mid to ps p o.1 o.2 h i)

pub map_more : {A B : Type 0} (f : A → B) (xs : List A) (x : A) → map f (xs ++ x ∷ []) ≡ map f xs ++ f x ∷ []
map_more f [] x = refl
map_more f (y ∷ xs) x = ap (λ t. f y ∷ t) (map_more f xs x)

-- A buffer that was lent whole.
pub lent_whole : (new old : List ℕ) → length new ≡ length old → take (length old) (new ++ drop (length new) old) ≡ new
lent_whole new old size = ap (λ (n : ℕ). take n (new ++ drop (length new) old)) (sym size) ∙ take-append_seam new (drop (length new) old)

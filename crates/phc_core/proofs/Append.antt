-- One more pair at the end of a parameter text.
use Rattle.std.proofs.Common.{◌≡◌, ◌≢◌, ℕ, zero, suc, ◌+◌, ◌<◌, ◌≤◌, Bool, true, false, List, [], ◌∷◌, ◌++◌, length, get_or, drop, drop-cons, length-drop, refl, cond, sym, ap, ◌∙◌, arith, All}
use Rattle.std.specs.Prelude.{◌==◌, Option, Some, None, MatchOption}
use Rattle.std.specs.List.{onto_first}
use Rattle.std.proofs.lemmas.List.Splits.{slice_split_none, length-slice_split}
use Rattle.phc_core.specs.ParamsString.{IsPair, LacksName, ArePairs, IsParams, pieces, pairs_of, name_in, value_in}

lacks_push : (name : List ℕ) (ps : List (List ℕ)) (p : List ℕ) → LacksName name ps → name_in p ≢ name → LacksName name (ps ++ p ∷ [])
lacks_push name [] p h n = (n, tt)
lacks_push name (q ∷ ps) p h n = (h.0, lacks_push name ps p h.1 n)

pub pairs_push : (ps : List (List ℕ)) (p : List ℕ) → ArePairs ps → IsPair p → LacksName (name_in p) ps → ArePairs (ps ++ p ∷ [])
pairs_push [] p h pair lacks = (pair, tt, tt)
pairs_push (q ∷ ps) p h pair lacks = (h.0, lacks_push (name_in q) ps p h.1 (λ e. lacks.0 (sym e)), pairs_push ps p h.2 pair lacks.1)

onto_push : (x : ℕ) (ps qs : List (List ℕ)) → 0 < length ps → onto_first x (ps ++ qs) ≡ onto_first x ps ++ qs
onto_push x [] qs h = absurd (omega (arith, h))
onto_push x (p ∷ ps) qs h = refl

split_step : (x : ℕ) (b : Bool) (t p : List ℕ) → pieces (t ++ 44 ∷ p) ≡ pieces t ++ p ∷ [] → (cond b ([] ∷ pieces (t ++ 44 ∷ p)) (onto_first x (pieces (t ++ 44 ∷ p)))) ≡ (cond b ([] ∷ pieces t) (onto_first x (pieces t))) ++ p ∷ []
split_step x true t p e = ap (λ ps. [] ∷ ps) e
split_step x false t p e = ap (onto_first x) e ∙ onto_push x (pieces t) (p ∷ []) (let n = length-slice_split (λ b. b == 44) t in omega (arith, n))

pub split_push : (t p : List ℕ) → All (λ b. (b == 44) ≡ false) p → pieces (t ++ 44 ∷ p) ≡ pieces t ++ p ∷ []
split_push [] p h = ap (λ ps. [] ∷ ps) (slice_split_none (λ b. b == 44) p h)
split_push (x ∷ t) p h = split_step x (x == 44) t p (split_push t p h)

pub pairs_at : (ps : List (List ℕ)) → ArePairs ps → (i : ℕ) → i < length ps → IsPair (get_or ps i [])
pairs_at [] h i lt = absurd (omega (arith, lt))
pairs_at (p ∷ ps) h zero lt = h.0
pairs_at (p ∷ ps) h (suc i) lt = pairs_at ps h.2 i (omega (arith, lt))

pub last_left : (ps : List (List ℕ)) (k i : ℕ) (r x : List ℕ) → k < length ps → pieces r ≡ drop k ps → pieces r ≡ x ∷ [] → k < i → length ps ≤ i
last_left ps k i r x lt is one before =
    let n = length-drop k ps in
    let e : length (drop k ps) ≡ 1 = ap length (sym is ∙ one) in
    omega (arith, n, e)

pub step_left : (ps : List (List ℕ)) (k : ℕ) (r x m : List ℕ) → k < length ps → pieces r ≡ drop k ps → pieces r ≡ x ∷ pieces m → (k + 1 < length ps) × (pieces m ≡ drop (k + 1) ps)
step_left ps k r x m lt is one =
    let n = length-drop k ps in
    let some = (let z = length-slice_split (λ b. b == 44) m in let w : 0 < length (pieces m) = omega (arith, z) in w) in
    let e : length (drop k ps) ≡ length (x ∷ pieces m) = ap length (sym is ∙ one) in
    let f : get_or ps k [] ∷ drop (suc k) ps ≡ x ∷ pieces m = sym (drop-cons ps k [] lt) ∙ sym is ∙ one in
    (omega (arith, n, e, some), (let g : drop (suc k) ps ≡ pieces m = cc f in let j : suc k ≡ k + 1 = omega arith in sym g ∙ ap (λ q. drop q ps) j))

pub some_pieces : (t : List ℕ) → 0 < length (pieces t)
some_pieces t = let z = length-slice_split (λ b. b == 44) t in omega (arith, z)

pub got : (t p : List ℕ) (i : ℕ) (r : Option (List ℕ × List ℕ)) → IsParams t → 0 < length t → (i < length (pieces t)) → p ≡ get_or (pieces t) i [] → MatchOption r (IsPair p → ⊥) (λ x. (x.0 ≡ name_in p) × (x.1 ≡ value_in p))
    → MatchOption r (length (pairs_of t) ≤ i) (λ x. (i < length (pairs_of t)) × (x.0 ≡ name_in (get_or (pairs_of t) i [])) × (x.1 ≡ value_in (get_or (pairs_of t) i [])))
got [] p i r h some lt is m = absurd (omega (arith, some))
got (c ∷ cs) p i None h some lt is m = absurd (m (rw is (pairs_at (pieces (c ∷ cs)) (h.1 some) i lt)))
got (c ∷ cs) p i (Some x) h some lt is m = (lt, m.0 ∙ ap name_in is, m.1 ∙ ap value_in is)

-- A text with one more pair, and a text of one pair.
pub params_push : (t p : List ℕ) → 0 < length t → IsParams t → IsPair p → LacksName (name_in p) (pieces t) → All (λ b. (b == 44) ≡ false) p → length (t ++ 44 ∷ p) ≤ 127 → IsParams (t ++ 44 ∷ p)
params_push t p some h pair lacks plain fits = (fits, λ _. rw (split_push t p plain) (pairs_push (pieces t) p (h.1 some) pair lacks))

pub params_first : (p : List ℕ) → IsPair p → All (λ b. (b == 44) ≡ false) p → length p ≤ 127 → IsParams p
params_first p pair plain fits = (fits, λ _. rw (slice_split_none (λ b. b == 44) p plain) (pair, tt, tt))

-- Lines of lists that grow by one.
use Rattle.std.proofs.Common.{◌≡◌, ◌<◌, ◌+◌, ℕ, List, [], ◌∷◌, ◌++◌, length, get_or, take, map, refl, sym, ap, ◌∙◌, subst, arith}
use Rattle.std.proofs.lemmas.List.{length-take, length-map, map-append, take-map, take_more}
use Rattle.inventory_core.specs.Lines.{AreLines}

pub take_one : {X : Type 0} (xs : List X) (i : ℕ) (x : X) → i < length xs → x ≡ get_or xs i x → take (i + 1) xs ≡ take i xs ++ x ∷ []
take_one xs i x lt at = take_more xs i x lt ∙ ap (λ y. take i xs ++ y ∷ []) (sym at)

pub lines_more : {A : Type 0} (L : ℕ → A → List ℕ → Type 0) (n m : ℕ) (xs : List A) (x : A) (ls : List (List ℕ)) (line : List ℕ)
    → m ≡ n + length xs → L m x line → AreLines L n xs ls → AreLines L n (xs ++ x ∷ []) (ls ++ line ∷ [])
lines_more L n m [] x ls line is h are =
    let same : m ≡ n = omega (arith, is) in
    (line, [], subst (λ k. L k x line) same h, refl, ap (λ z. z ++ line ∷ []) are)
lines_more L n m (y ∷ ys) x ls line is h (l, more, hl, hm, e) =
    (l, more ++ line ∷ [], hl, lines_more L (n + 1) m ys x more line (omega (arith, is)) h hm, ap (λ z. z ++ line ∷ []) e)

pub next_line : {A : Type 0} (L : ℕ → A → List ℕ → Type 0) (xs : List A) (j : ℕ) (x : A) (ls : List (List ℕ)) (line : List ℕ)
    → j < length xs → x ≡ get_or xs j x → L j x line → AreLines L 0 (take j xs) ls → AreLines L 0 (take (j + 1) xs) (ls ++ line ∷ [])
next_line L xs j x ls line lt at h are =
    let size : length (take j xs) ≡ j = omega (arith, length-take j xs, lt) in
    subst (λ t. AreLines L 0 t (ls ++ line ∷ [])) (sym (take_one xs j x lt at)) (lines_more L 0 j (take j xs) x ls line (omega (arith, size)) h are)

-- The same of things that are seen by f.
pub next_seen : {A B : Type 0} (f : A → B) (L : ℕ → B → List ℕ → Type 0) (xs : List A) (j : ℕ) (x : A) (ls : List (List ℕ)) (line : List ℕ)
    → j < length xs → x ≡ get_or xs j x → L j (f x) line → AreLines L 0 (take j (map f xs)) ls → AreLines L 0 (take (j + 1) (map f xs)) (ls ++ line ∷ [])
next_seen f L xs j x ls line lt at h are =
    let size : length (take j xs) ≡ j = omega (arith, length-take j xs, lt) in
    let front : length (take j (map f xs)) ≡ j = ap length (take-map f j xs) ∙ length-map (take j xs) f ∙ size in
    let one : take (j + 1) (map f xs) ≡ take j (map f xs) ++ f x ∷ [] =
    take-map f (j + 1) xs ∙ ap (map f) (take_one xs j x lt at) ∙ map-append f (take j xs) (x ∷ []) ∙ ap (λ t. t ++ f x ∷ []) (sym (take-map f j xs)) in
    subst (λ t. AreLines L 0 t (ls ++ line ∷ [])) (sym one) (lines_more L 0 j (take j (map f xs)) (f x) ls line (omega (arith, front)) h are)

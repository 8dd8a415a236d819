-- Lists that are taken whole.
use Rattle.std.proofs.Common.{◌≡◌, ◌≢◌, ◌≤◌, ◌⊎◌, ℕ, Bool, true, false, length, List, [], ◌∷◌, map, take, refl, ap, sym, ◌∙◌, arith, inl, inr}
use Rattle.std.specs.Prelude.{◌==◌, Some}
use Rattle.std.proofs.lemmas.Bool.{eqb-true}
use Rattle.std.proofs.lemmas.List.{take_all}
use Rattle.std.proofs.lemmas.Simd.{map-map}

pub map_whole : {X Y : Type 0} (f : X → Y) (xs : List X) (n : ℕ) → length xs ≤ n → map f (take n xs) ≡ map f xs
map_whole f xs n h = ap (λ l. map f l) (take_all n xs h)

pub some_there : {X Y : Type 0} (f : X → Y) (xs : List X) → map f xs ≢ [] → xs ≢ []
some_there f [] h e = h refl
some_there f (x ∷ xs) h e = cc

pub none_there : {X Y : Type 0} (f : X → Y) (xs : List X) → map f xs ≡ [] → xs ≡ []
none_there f [] e = refl
none_there f (x ∷ xs) e = cc

pub as_many : {X : Type 0} (xs : List X) (none : Bool) (n : ℕ) → xs ≢ [] → none ≡ (length xs == 0) → ((none ≡ false) × (length xs ≡ n)) ⊎ (none ≡ true) → length xs ≡ n
as_many [] none n some is h = absurd (some refl)
as_many (x ∷ xs) none n some is (inl h) = h.1
as_many (x ∷ xs) none n some is (inr h) = let e : length (x ∷ xs) ≡ 0 = eqb-true (length (x ∷ xs)) 0 (sym is ∙ h) in absurd (omega arith)

pub somes : {X : Type 0} (f : X → List ℕ) (xs : List X) → map (λ x. Some (f x)) xs ≡ map (λ n. Some n) (map f xs)
somes f xs = sym (map-map (λ n. Some n) f xs)

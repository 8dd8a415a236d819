-- Lemmas on the first place of an element.
use Rattle.std.proofs.Common.{◌≡◌, ℕ, ◌+◌, ◌<◌, List, [], ◌∷◌, ◌++◌, Bool, false, Option, Some, length, get_or, take, position, refl, add-one, arith, length-take, bytes_eq}
use Rattle.std.specs.Option.{is_some}
use Rattle.std.specs.Map.{update}
use Rattle.std.proofs.Math.Seq.{take-suc}
use Rattle.std.proofs.lemmas.List.Folds.{position_or_len_push}
use Rattle.std.proofs.lemmas.List.Sums.{prefix_len-le-length}
use Rattle.std.proofs.lemmas.Slice.Eq.{bytes_eq-Decides}
use Rattle.std.proofs.lemmas.Grind.{common_steps}
use Rattle.pkcs12_inspection.specs.Pairs.{first_of}

-- with one element more, the first place stays, and else it may be the new one
pub position_push : {X : Type 0} (p : X → Bool) (xs : List X) (y : X) → position p (xs ++ y ∷ []) ≡ first_of (position p xs) (p y) (length xs)
position_push p xs y = grind (arith, common_steps, position_or_len_push, prefix_len-le-length)

-- the same of the front of a list
pub position_take : {X : Type 0} (p : X → Bool) (xs : List X) (i : ℕ) (d : X) → i < length xs
    → position p (take (i + 1) xs) ≡ first_of (position p (take i xs)) (p (get_or xs i d)) i
position_take p xs i d h = let l : length (take i xs) ≡ i = grind (arith, common_steps, length-take) in rw (add-one, take-suc xs i d, position_push p (take i xs) (get_or xs i d), l) refl

-- a map that is set at an id that had no place
pub noted : (f : List ℕ → Option ℕ) (id q : List ℕ) (place : ℕ) → false ≡ is_some (f id) → update bytes_eq f id (Some place) q ≡ first_of (f q) (bytes_eq q id) place
noted f id q place n = grind (arith, common_steps, bytes_eq-Decides)

-- What is written, read and written again: from the laws of a row, each of its steps.
use Rattle.std.proofs.Common.{◌≡◌, ℕ, List, refl, ap, subst}
use Rattle.p12.specs.Same.{IsOneText, IsReadAgain, IsReadAsSame, IsWrittenAlike}
use Rattle.p12.specs.Sole.{IsSole}

-- a row whose values may be the same without being equal
pub alike : {A : Type 0} (R : List ℕ → A → Type 0) (S : A → A → Type 0) (canon : A → List ℕ) → IsReadAsSame R S canon → IsSole R → IsOneText S canon → IsWrittenAlike R S canon
alike R S canon again sole once v w i (r, short) =
    let read = again v i in
    let is = sole (canon v) read.0 w (read.1, short) (r, short) in
    let same = subst (λ x. S x v) is read.2 in
    (same, once w v same)

-- a row whose values are the same only where they are equal
pub alike_exactly : {A : Type 0} (R : List ℕ → A → Type 0) (canon : A → List ℕ) → IsReadAgain R canon → IsSole R → IsWrittenAlike R (λ x y. x ≡ y) canon
alike_exactly R canon again sole =
    alike R (λ x y. x ≡ y) canon (λ v i. (v, again v i, refl)) sole (λ x y e. ap canon e)

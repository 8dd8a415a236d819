-- Words, one after the other.
use Rattle.std.proofs.Common.{◌≡◌, List, ℕ, ◌<◌, ◌^◌, ◌∷◌}
use Rattle.std.proofs.lemmas.Fmt.{decimal_injective}
use Rattle.std.specs.Prelude.{decimal}

-- A word is the text of one number.
pub one_number : (ws : List (List ℕ)) (word : List ℕ) (rest more : List (List ℕ)) (n m : ℕ)
    → ws ≡ word ∷ rest → word ≡ decimal n → n < 2 ^ 64 → m < 2 ^ 64 → ws ≡ decimal m ∷ more → n ≡ m
one_number ws word rest more n m w d small less e =
    let same : decimal n ≡ decimal m = cc in
    decimal_injective n m small less same

use Rattle.std.proofs.Common.{◌≡◌, ◌≤◌, ℕ, List, [], ◌∷◌, arith}
use Rattle.std.specs.Prelude.{codes, decimal}
use Rattle.transfer.specs.Words.{IsNoCommand}
use Rattle.transfer.proofs.program.words.command_of.Goals as goal

no_limit : (words w x y z : List (List ℕ)) (a b d : List ℕ) → words ≡ codes "transfer" ∷ w → w ≡ a ∷ x → x ≡ b ∷ y → y ≡ d ∷ z
    → ((n : ℕ) (rest : List (List ℕ)) → 0 ≤ n → n ≤ 18446744073709551615 → z ≡ decimal n ∷ rest → ⊥) → IsNoCommand words
no_limit words w x y z a b d p q r s none c is =
    let spelled = is.spelled in
    let last : z ≡ decimal c.limit ∷ [] = cc in
    none c.limit [] (omega arith) (omega (arith, is.limit)) last

pub returns-in_err-limit : goal.returns-in_err-limit
returns-in_err-limit c =
    rw c.from_residual-in_err-limit.ensures
    (no_limit _ _ _ _ _ _ _ _ c.in_ok-rest.ensures.found c.in_ok-password.ensures.found.0 c.in_ok-new_password.ensures.found.0 c.in_ok-rounds.ensures.found.0 c.in_err-limit.ensures.none)

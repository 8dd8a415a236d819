-- What the program returns for the command of its words.
use Rattle.std.proofs.Common.{◌≡◌, ℕ, List, sym, ap, ◌∙◌}
use Rattle.std.specs.Prelude.{decimal}
use Rattle.std.proofs.lemmas.Fmt.{decimal_injective}
use Rattle.inventory_core.specs.Words.{Command, IsCommand}

pub one_command : (words : List (List ℕ)) (c d : Command) → IsCommand words c → IsCommand words d → c ≡ d
one_command words c d p q =
    let s = sym p.spelled ∙ q.spelled in
    let password : c.password ≡ d.password = cc in
    let l : decimal c.limit ≡ decimal d.limit = cc in
    let limit = decimal_injective c.limit d.limit p.limit q.limit l in
    let make : List ℕ → ℕ → Command = λ a m. record { password = a; limit = m } in
    ap (λ a. make a c.limit) password ∙ ap (λ m. make d.password m) limit

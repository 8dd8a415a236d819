-- An input of two lines is no line.
use Rattle.std.proofs.Common.{◌≡◌, ℕ, List, subst}
use Rattle.std.specs.Prelude.{Option, Some, None}
use Rattle.frame.specs.InputText.{IsInput, IsNoInput}
use Rattle.inventory_core.specs.InputLine.{IsLine, IsNoLine}
use Rattle.frame.proofs.Lines.{one_input}

-- An input of two lines.
pub two_lines : (x store line : List ℕ) → IsInput x store (Some line) → IsNoLine x
two_lines x store line i other j =
    let same : None ≡ Some line = (one_input x other store None (Some line) j i).1 in
    absurd cc

-- What was read of the input, where there is no second line, and where there is one.
pub no_second : (x store : List ℕ) (l : Option (List ℕ)) → IsInput x store l → l ≡ None → IsLine x store
no_second x store l i is = let P : Option (List ℕ) → Type 0 = λ l. IsInput x store l in subst P is i

pub second : (x store line : List ℕ) (l : Option (List ℕ)) → IsInput x store l → l ≡ Some line → IsNoLine x
second x store line l i is = let P : Option (List ℕ) → Type 0 = λ l. IsInput x store l in two_lines x store line (subst P is i)

-- No input is no line.
pub no_line : (x : List ℕ) → IsNoInput x → IsNoLine x
no_line x none store i = none store None i

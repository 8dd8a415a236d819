use Rattle.std.proofs.Common.{◌≡◌, sym, ◌∙◌, arith}
use Rattle.std.proofs.lemmas.Bool.Decides.{nat_tests}
use Rattle.std.proofs.lemmas.Fmt.{decimal_injective}
use Rattle.octet_core.proofs.decimal.decimal_of.Goals as goal

pub returns-then-number-clause-none : goal.returns-then-number-clause-none
returns-then-number-clause-none c = λ n small is.
    let found = c.in-Some.ensures.found in
    let same : n ≡ c.in-Some.number = decimal_injective n c.in-Some.number (omega (arith, small)) found.0 (sym is ∙ found.1) in
    grind (arith, nat_tests, same, small, c.if-number.true)

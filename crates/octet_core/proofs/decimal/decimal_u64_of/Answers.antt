use Rattle.std.proofs.Common.{length, get_or, arith, ap}
use Rattle.std.proofs.lemmas.Bool.Decides.{nat_tests}
use Rattle.octet_core.proofs.Numerals.{read, not_empty, no_plus, no_zero, some_from_ok, none_from_ok}
use Rattle.octet_core.proofs.decimal.decimal_u64_of.Goals.{else-digits-eq48-via-then-digits-eq48+else-digits-gt1, else-digits-eq48-via-else-digits-eq48, After-ok}
use Rattle.octet_core.proofs.decimal.decimal_u64_of.Goals as goal

pub returns-then-is_empty-clause-none : goal.returns-then-is_empty-clause-none
returns-then-is_empty-clause-none c = λ n small is.
    let e = c.as_bytes-digits.ensures.len in
    not_empty _ n small is (grind (arith, nat_tests, c.if-is_empty.ensures))

pub returns-then-digits-eq43-clause-none : goal.returns-then-digits-eq43-clause-none
returns-then-digits-eq43-clause-none c = λ n small is.
    let e = c.as_bytes-digits.ensures.value in
    no_plus _ n small is (grind (arith, nat_tests, ap length e, c.if-is_empty.ensures)) (omega (arith, ap (λ x. get_or x 0 0) e))

pub returns-then-digits-gt1-clause-none : goal.returns-then-digits-gt1-clause-none
returns-then-digits-gt1-clause-none c = λ n small is.
    let e = c.as_bytes-digits.ensures.value in
    no_zero _ n small is (omega (arith, ap (λ x. get_or x 0 0) e)) (omega (arith, ap length e))

pub returns-clause-found : goal.returns-clause-found
returns-clause-found c =
    let e = c.as_bytes-digits.ensures.value in
    some_from_ok _ _ _ _ c.ok.ensures.value (read c.args.word.now c.parse.result c.parse.ensures.value.0
    (λ h. omega (arith, ap (λ x. get_or x 0 0) e))
    (λ z. grind (arith, nat_tests, ap length e, ap (λ x. get_or x 0 0) e, c.if-is_empty.ensures, c.else-digits-eq48.either)))

pub returns-clause-none : goal.returns-clause-none
returns-clause-none c =
    let e = c.as_bytes-digits.ensures.value in
    none_from_ok _ _ _ _ c.ok.ensures.value (read c.args.word.now c.parse.result c.parse.ensures.value.0
    (λ h. omega (arith, ap (λ x. get_or x 0 0) e))
    (λ z. grind (arith, nat_tests, ap length e, ap (λ x. get_or x 0 0) e, c.if-is_empty.ensures, c.else-digits-eq48.either)))

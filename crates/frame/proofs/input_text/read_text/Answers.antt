use Rattle.std.proofs.Common.{List, ℕ, subst}
use Rattle.std.proofs.lemmas.Result.{err_from_is_err_and}
use Rattle.frame.specs.TwoLines.{IsSplit}
use Rattle.frame.proofs.Lines.{no_second, text_cause}
use Rattle.frame.proofs.Pieces.{no_first_line, no_only_line}
use Rattle.frame.proofs.input_text.read_text.Goals as goal

pub returns-in_err-line-in-Some-clause-cause : goal.returns-in_err-line-in-Some-clause-cause
returns-in_err-line-in-Some-clause-cause c =
    let p = err_from_is_err_and c.from_residual-in_err-line-in-Some.result c.from_residual-in_err-line-in-Some.ensures.1 in
    let none = no_second _ c.in-Some.first.now c.in-Some.second.now c.digits_of.result.now
    (subst (λ (t : List ℕ). IsSplit t c.in-Some.first.now c.in-Some.second.now) c.as_slice-held.ensures.value c.in-Some.ensures) c.digits_of.ensures in
    rw (p.1, p.2) (text_cause _ _ c.in_err-line-in-Some.field-0.0 none c.in_err-line-in-Some.ensures.cause)

pub returns-in_err-store-in-None-clause-cause : goal.returns-in_err-store-in-None-clause-cause
returns-in_err-store-in-None-clause-cause c =
    let p = err_from_is_err_and c.from_residual.result c.from_residual.ensures.1 in
    let none = no_only_line _ _ _ c.as_slice-held.ensures.value c.in-None.ensures c.digits_of-count.ensures in
    rw (p.1, p.2) (text_cause _ _ c.in_err-store-in-None.field-0.0 none c.in_err-store-in-None.ensures.cause)

pub returns-in_err-store-in-Some-clause-cause : goal.returns-in_err-store-in-Some-clause-cause
returns-in_err-store-in-Some-clause-cause c =
    let p = err_from_is_err_and c.from_residual-in_err-store-in-Some.result c.from_residual-in_err-store-in-Some.ensures.1 in
    let none = no_first_line _ _ c.in-Some.first.now c.in-Some.second.now c.as_slice-held.ensures.value c.in-Some.ensures in
    rw (p.1, p.2) (text_cause _ _ c.in_err-store-in-Some.field-0.0 none c.in_err-store-in-Some.ensures.cause)

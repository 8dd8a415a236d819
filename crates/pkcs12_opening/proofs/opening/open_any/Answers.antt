use Rattle.std.proofs.Common.{List, ℕ, subst, sym, ◌∙◌}
use Rattle.pkcs12_arguments.specs.declared.accepted.Accepted.TheVariants.{Old}
use Rattle.pkcs12_opening.specs.Ending.{ending_of_refusal}
use Rattle.pkcs12_opening.specs.Opens.{FailsToOpen}
use Rattle.pkcs12_opening.proofs.Refusals.{stays_to_fail}
use Rattle.pkcs12_opening.proofs.opening.open_any.Goals as goal

pub returns-then-stays_refused-clause-err : goal.returns-then-stays_refused-clause-err
returns-then-stays_refused-clause-err g c =
    subst (λ (x : List ℕ). FailsToOpen Old c.args.store.now x c.args.limit (ending_of_refusal c.in-Err.refusal)) c.as_str-text.ensures.value
    (stays_to_fail c.args.store.now c.as_str-text.result.now c.args.limit _ _ c.in-Err.refusal (sym c.stays_refused.ensures ∙ c.if-stays_refused.true) c.in-Err.ensures.refused)

use Rattle.std.proofs.Common.{subst, sym}
use Rattle.phc_core.specs.ParamsString.{IsParams}
use Rattle.phc_core.proofs.Ascii.{params_utf8}
use Rattle.phc_core.proofs.params_string.ParamsString.as_text.Goals as goal

pub returns-in-Err-clause-value : goal.returns-in-Err-clause-value
returns-in-Err-clause-value c = absurd (c.in-Err.ensures.cases.0 (params_utf8 _ (subst IsParams (sym c.as_slice.ensures.value) c.self.invariant)))

use Rattle.std.proofs.Common.{subst, sym}
use Rattle.phc_core.specs.Value.{IsValue}
use Rattle.phc_core.proofs.Ascii.{value_utf8}
use Rattle.phc_core.proofs.value.Value.as_str.Goals as goal

pub returns-in-Err-clause-value : goal.returns-in-Err-clause-value
returns-in-Err-clause-value c = absurd (c.in-Err.ensures.cases.0 (value_utf8 _ (subst IsValue (sym c.as_slice.ensures.value) c.self.invariant)))

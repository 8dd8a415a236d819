use Rattle.std.proofs.Common.{subst, sym}
use Rattle.phc_core.specs.Ident.{IsIdent}
use Rattle.phc_core.proofs.Ascii.{ident_utf8}
use Rattle.phc_core.proofs.ident.Ident.as_str.Goals as goal

pub returns-in-Err-clause-value : goal.returns-in-Err-clause-value
returns-in-Err-clause-value c = absurd (c.in-Err.ensures.cases.0 (ident_utf8 _ (subst IsIdent (sym c.as_slice.ensures.value) c.self.invariant)))

use Rattle.std.proofs.Common.{drop}
use Rattle.phc_core.specs.ParamsString.{pairs_of}
use Rattle.phc_core.specs.declared.error.Error.{Error}
use Rattle.pbkdf2.specs.Settings.{Settings, recommended}
use Rattle.pbkdf2.specs.Params.{Leads, Fails}
use Rattle.pbkdf2.proofs.params_text.read_pairs.Given as goal

abbrev pub invariant-loop-k : goal.invariant-loop-k
invariant-loop-k l = record {
  leads : (t : Settings) → Leads (drop l.k (pairs_of l.params)) l.found t → Leads (pairs_of l.params) recommended t;
  fails : (e : Error) → Fails (drop l.k (pairs_of l.params)) l.found e → Fails (pairs_of l.params) recommended e;
}

use Rattle.std.proofs.Common.{◌≡◌, ◌++◌, drop}
use Rattle.std.specs.Prelude.{◌==◌}
use Rattle.x509_names.specs.Values.{escaped, escaped_from}
use Rattle.x509_names.proofs.value.push_escaped.Given as goal

abbrev pub invariant-loop-i : goal.invariant-loop-i
invariant-loop-i l = l.printed ++ escaped_from (l.i == 0) (drop l.i l.text) ≡ l.initial.printed ++ escaped l.text

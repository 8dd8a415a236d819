use Rattle.std.proofs.Common.{◌∙◌}
use Rattle.std.proofs.lemmas.Result.{err_from_is_err_and}
use Rattle.passdb_core.proofs.Cuts.{no_cut}
use Rattle.passdb_core.proofs.Files.{line_cut, malformed_as, next_from, pair_here}
use Rattle.passdb_core.proofs.file.read_line.Goals as goal

pub returns-in_default-clause-refused : goal.returns-in_default-clause-refused
returns-in_default-clause-refused c = λ name e rest is. no_cut 10 c.args.text.now _ rest c.in_default.ensures (is.spelled ∙ line_cut name e rest)

pub returns-clause-read : goal.returns-clause-read
returns-clause-read c =
    let p = c.in_ok-put_line.ensures.put in
    (p.0, p.1, next_from c.args.text.now c.in-Some.line.now c.in-Some.rest.now _ p.0 p.1 c.in-Some.ensures p.2 p.3, p.4)

pub returns-in_err-put_line-clause-refused : goal.returns-in_err-put_line-clause-refused
returns-in_err-put_line-clause-refused c =
    let p = err_from_is_err_and c.from_residual.result c.from_residual.ensures.1 in
    rw (p.1, p.2) (malformed_as _ _ c.in_err-put_line.field-0.0 (λ none name e rest is.
    none name e (pair_here c.args.text.now c.in-Some.line.now c.in-Some.rest.now _ name e rest c.in-Some.ensures is) is.above) c.in_err-put_line.ensures.refused)

use Rattle.std.proofs.lemmas.Result.{err_from_is_err_and}
use Rattle.passdb_core.proofs.Files.{err_as, malformed_as}
use Rattle.passdb_core.proofs.Scripts.{front_none, nil_from, no_empty_line, ok_as, script_none, input_from}
use Rattle.passdb_core.proofs.script.read_input.Goals as goal

pub returns-in_default-clause-refused : goal.returns-in_default-clause-refused
returns-in_default-clause-refused c = no_empty_line c.args.input.now c.read_front.new.db.entries c.in_ok-rest.rest.now c.in_ok-rest.ensures.read (nil_from c.in_ok-rest.rest.now c.in_default.ensures.cases)

pub returns-clause-refused : goal.returns-clause-refused
returns-clause-refused c =
    err_as c.read_script.result _ _ (script_none c.args.input.now c.read_front.new.db.entries c.in_ok-rest.rest.now c.in-Some.lines.now c.in-Some.field-0-0.now c.in_ok-rest.ensures.read c.in-Some.ensures.cases.0) c.read_script.ensures.refused

pub returns-clause-read : goal.returns-clause-read
returns-clause-read c =
    ok_as c.read_script.result _ _ (λ cs. input_from c.args.input.now c.read_front.new.db.entries c.in_ok-rest.rest.now c.in-Some.lines.now c.in-Some.field-0-0.now _ c.in_ok-rest.ensures.read c.in-Some.ensures.cases.0)
    c.read_script.ensures.read

pub returns-in_err-rest-clause-refused : goal.returns-in_err-rest-clause-refused
returns-in_err-rest-clause-refused c =
    let p = err_from_is_err_and c.from_residual.result c.from_residual.ensures.1 in
    rw (p.1, p.2) (malformed_as _ _ c.in_err-rest.field-0.0 (front_none c.args.input.now) c.in_err-rest.ensures.refused)

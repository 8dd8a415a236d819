use Rattle.std.proofs.Common.{subst}
use Rattle.std.proofs.lemmas.Result.{err_from_is_err_and}
use Rattle.passdb_core.specs.Entries.{IsNoFile}
use Rattle.passdb_core.proofs.Files.{file_none, malformed_as, not_all}
use Rattle.passdb_core.proofs.Scripts.{some_left}
use Rattle.passdb_core.proofs.database.Db.parse.Goals as goal

pub returns-then-not-is_empty-clause-err : goal.returns-then-not-is_empty-clause-err
returns-then-not-is_empty-clause-err c =
    subst IsNoFile c.as_bytes.ensures.value
    (not_all c.as_bytes.result.now c.read_front.new.db.entries c.in_ok-rest.rest.now c.in_ok-rest.ensures.read (some_left c.is_empty.result c.in_ok-rest.rest.now c.is_empty.ensures c.if-not-is_empty.true))

pub returns-in_err-rest-clause-err : goal.returns-in_err-rest-clause-err
returns-in_err-rest-clause-err c =
    let p = err_from_is_err_and c.from_residual.result c.from_residual.ensures.1 in
    rw (p.1, p.2) (malformed_as _ _ c.in_err-rest.field-0.0 (λ none. subst IsNoFile c.as_bytes.ensures.value (file_none c.as_bytes.result.now none)) c.in_err-rest.ensures.refused)

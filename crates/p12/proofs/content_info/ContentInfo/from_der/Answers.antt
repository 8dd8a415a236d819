use Rattle.std.proofs.lemmas.Result.{err_from_is_err_and}
use Rattle.asn1_core.specs.StandLaws.{whole_found}
use Rattle.p12.proofs.ContentRows.{content-exact}
use Rattle.p12.proofs.Public.{not_whole}
use Rattle.p12.proofs.content_info.ContentInfo.from_der.Goals as goal

pub returns-in_err-whole_content-clause-err : goal.returns-in_err-whole_content-clause-err
returns-in_err-whole_content-clause-err c =
    let p = err_from_is_err_and c.from_residual.result c.from_residual.ensures.1 in
    rw (p.1, p.2) (not_whole content-exact _ _ c.in_err-whole_content.ensures)

pub returns-clause-ok : goal.returns-clause-ok
returns-clause-ok c = whole_found _ _ content-exact _ _ c.in_ok-whole_content.ensures

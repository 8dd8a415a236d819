use Rattle.std.proofs.lemmas.Result.{err_from_is_err_and}
use Rattle.asn1_core.specs.StandLaws.{whole_found}
use Rattle.p12.specs.ContentInfo.{IsContents}
use Rattle.p12.proofs.ContentRows.{contents-exact}
use Rattle.p12.proofs.Public.{not_whole}
use Rattle.p12.proofs.content_info.ContentInfo.parse_all.Goals as goal

pub returns-in_err-all_contents-clause-err : goal.returns-in_err-all_contents-clause-err
unfolding IsContents
returns-in_err-all_contents-clause-err c =
    let p = err_from_is_err_and c.from_residual.result c.from_residual.ensures.1 in
    rw (p.1, p.2) (not_whole contents-exact _ _ c.in_err-all_contents.ensures)

pub returns-clause-ok : goal.returns-clause-ok
unfolding IsContents
returns-clause-ok c = whole_found _ _ contents-exact _ _ c.in_ok-all_contents.ensures

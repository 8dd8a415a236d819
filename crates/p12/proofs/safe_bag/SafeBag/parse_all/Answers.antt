use Rattle.std.proofs.lemmas.Result.{err_from_is_err_and}
use Rattle.asn1_core.specs.StandLaws.{whole_found}
use Rattle.p12.specs.SafeBag.{IsBags}
use Rattle.p12.proofs.BagRows.{bags-exact}
use Rattle.p12.proofs.Public.{not_whole}
use Rattle.p12.proofs.safe_bag.SafeBag.parse_all.Goals as goal

pub returns-in_err-all_bags-clause-err : goal.returns-in_err-all_bags-clause-err
unfolding IsBags
returns-in_err-all_bags-clause-err c =
    let p = err_from_is_err_and c.from_residual.result c.from_residual.ensures.1 in
    rw (p.1, p.2) (not_whole bags-exact _ _ c.in_err-all_bags.ensures)

pub returns-clause-ok : goal.returns-clause-ok
unfolding IsBags
returns-clause-ok c = whole_found _ _ bags-exact _ _ c.in_ok-all_bags.ensures

use Rattle.std.proofs.lemmas.Result.{err_from_is_err_and}
use Rattle.p12.proofs.BagRows.{kind_front-exact}
use Rattle.p12.proofs.Public.{refused}
use Rattle.p12.proofs.safe_bag.SafeBagKind.parse.Goals as goal

pub returns-in_err-kind_in_front-clause-stands : goal.returns-in_err-kind_in_front-clause-stands
returns-in_err-kind_in_front-clause-stands c =
    let p = err_from_is_err_and c.from_residual.result c.from_residual.ensures.1 in
    rw (p.1, p.2) (refused (kind_front-exact c.args.bag_id) _ _ _ c.in_err-kind_in_front.ensures.exact)

pub returns-clause-stands : goal.returns-clause-stands
returns-clause-stands c = (kind_front-exact c.args.bag_id).found _ _ _ c.in_ok-kind_in_front.ensures.exact

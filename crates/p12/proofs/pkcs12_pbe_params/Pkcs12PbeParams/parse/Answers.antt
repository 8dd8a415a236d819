use Rattle.std.proofs.Common.{refl}
use Rattle.std.proofs.lemmas.Result.{err_from_is_err_and}
use Rattle.p12.proofs.AlgorithmRows.{params-exact}
use Rattle.p12.proofs.Public.{refused_free}
use Rattle.p12.proofs.pkcs12_pbe_params.Pkcs12PbeParams.parse.Goals as goal

pub returns-in_err-view-clause-stands : goal.returns-in_err-view-clause-stands
returns-in_err-view-clause-stands c =
    let p = err_from_is_err_and c.from_residual.result c.from_residual.ensures.1 in
    rw (p.1, p.2) (refl, refused_free params-exact _ _ c.in_err-view.ensures.exact.1)

pub returns-clause-stands : goal.returns-clause-stands
returns-clause-stands c = rw (c.in_ok-params.ensures.ok) (params-exact.found _ _ _ c.in_ok-view.ensures.exact)

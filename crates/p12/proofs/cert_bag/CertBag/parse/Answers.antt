use Rattle.std.proofs.Common.{refl}
use Rattle.std.proofs.lemmas.Result.{err_from_is_err_and}
use Rattle.p12.proofs.BagRows.{cert_bag-exact}
use Rattle.p12.proofs.Public.{refused_free}
use Rattle.p12.proofs.cert_bag.CertBag.parse.Goals as goal

pub returns-in_err-view-clause-stands : goal.returns-in_err-view-clause-stands
returns-in_err-view-clause-stands c =
    let p = err_from_is_err_and c.from_residual.result c.from_residual.ensures.1 in
    rw (p.1, p.2) (refl, refused_free cert_bag-exact _ _ c.in_err-view.ensures.exact.1)

pub returns-clause-stands : goal.returns-clause-stands
returns-clause-stands c = rw (c.in_ok-certificate.ensures.ok) (cert_bag-exact.found _ _ _ c.in_ok-view.ensures.exact)

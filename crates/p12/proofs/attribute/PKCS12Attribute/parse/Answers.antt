use Rattle.std.proofs.lemmas.Result.{err_from_is_err_and}
use Rattle.p12.proofs.BagRows.{attribute-exact}
use Rattle.p12.proofs.Public.{refused}
use Rattle.p12.proofs.attribute.PKCS12Attribute.parse.Goals as goal

pub returns-in_err-attribute_in_front-clause-stands : goal.returns-in_err-attribute_in_front-clause-stands
returns-in_err-attribute_in_front-clause-stands c =
    let p = err_from_is_err_and c.from_residual.result c.from_residual.ensures.1 in
    rw (p.1, p.2) (refused attribute-exact _ _ _ c.in_err-attribute_in_front.ensures.exact)

pub returns-clause-stands : goal.returns-clause-stands
returns-clause-stands c = attribute-exact.found _ _ _ c.in_ok-attribute_in_front.ensures.exact

use Rattle.asn1_core.specs.StandLaws.{whole_found}
use Rattle.p12.specs.Pfx.{IsStore}
use Rattle.p12.proofs.ContentRows.{pfx-exact}
use Rattle.p12.proofs.Public.{not_whole_free}
use Rattle.p12.proofs.pfx.StoreView.parse.Goals as goal

pub returns-in-Err-clause-err : goal.returns-in-Err-clause-err
unfolding IsStore
returns-in-Err-clause-err c = rw (c.into.ensures) (not_whole_free pfx-exact _ _ c.in-Err.ensures.exact)

pub returns-in-Ok-clause-ok : goal.returns-in-Ok-clause-ok
unfolding IsStore
returns-in-Ok-clause-ok c = whole_found _ _ pfx-exact _ _ c.in-Ok.ensures.exact

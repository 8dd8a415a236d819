use Rattle.std.proofs.Common.{◌≡◌, [], arith, refl, Err}
use Rattle.std.proofs.lemmas.Grind.{common_steps}
use Rattle.std.proofs.lemmas.Result.{err_from_is_err_and}
use Rattle.asn1_core.proofs.PartLoops.{last_begins, last_goes_on, last_ends}
use Rattle.asn1_core.specs.Unicode.{bmp_at}
use Rattle.asn1_core.specs.Reading.{header_at, Bad}
use Rattle.p12.specs.AttributeView.{bmp_text}
use Rattle.p12.proofs.Walks.{latest_fails_free}
use Rattle.p12.proofs.attribute.last_name.Goals as goal

pub loop-found-init : goal.loop-found-init
loop-found-init c =
    (last_begins bmp_at c.args.body.rest.now c.bmp_element.new.r.rest.now (bmp_text c.in_ok-found.found.now) c.in_ok-found.ensures.shorter c.in_ok-found.ensures.exact, c.in_ok-found.ensures.alone)

pub loop-found-preserved : goal.loop-found-preserved
loop-found-preserved c =
    (last_goes_on bmp_at c.args.body.rest.now c.loop-found.body.rest.now c.bmp_element-in-loop-found.new.r.rest.now (bmp_text c.loop-found.found.now) (bmp_text c.in_ok-found-2.found.now) c.in_ok-found-2.ensures.shorter c.in_ok-found-2.ensures.exact c.loop-found.invariant.0, c.in_ok-found-2.ensures.alone)

pub returns-clause-exact : goal.returns-clause-exact
returns-clause-exact c = last_ends bmp_at c.args.body.rest.now c.loop-found.body.rest.now (bmp_text c.loop-found.found.now) (grind (arith, common_steps)) c.loop-found.invariant.0

begins_none : bmp_at [] ≡ Err Bad
unfolding bmp_at header_at
begins_none = refl

pub returns-in_err-found-clause-exact : goal.returns-in_err-found-clause-exact
returns-in_err-found-clause-exact c =
    let p = err_from_is_err_and c.from_residual.result c.from_residual.ensures.1 in
    rw (p.1, p.2) (latest_fails_free bmp_at _ _ begins_none c.in_err-found.ensures.exact.1)

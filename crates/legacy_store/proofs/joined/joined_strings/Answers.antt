use Rattle.std.proofs.Common.{arith}
use Rattle.std.proofs.lemmas.Result.{err_from_is_err_and}
use Rattle.asn1_core.specs.Reading.{inside_at}
use Rattle.legacy_store.proofs.Joins.{joins_fail, joins_more}
use Rattle.legacy_store.proofs.joined.joined_strings.Goals as goal

pub returns-in_err-part : goal.returns-in_err-part
returns-in_err-part c =
    let p = err_from_is_err_and c.from_residual.result c.from_residual.ensures.1 in
    rw (p.1, p.2) (joins_fail ⊥ (inside_at 0x04) c.args.body.rest.now c.loop-body.body.rest.now c.loop-body.octets c.in_err-part.field-0.0 (grind (arith, c.is_finished.ensures, c.loop-body-test.true)) c.in_err-part.ensures.exact.1 c.loop-body.invariant)

pub loop-body-preserved : goal.loop-body-preserved
loop-body-preserved c =
    rw c.in_ok-extend.ensures.ok (joins_more (inside_at 0x04) c.args.body.rest.now c.loop-body.body.rest.now c.read_inner.new.r.rest.now c.loop-body.octets c.in_ok-part.part.rest.now c.in_ok-part.ensures.shorter c.in_ok-part.ensures.exact c.loop-body.invariant)

use Rattle.std.proofs.Common.{[], ◌∷◌, ◌++◌, arith}
use Rattle.std.proofs.lemmas.Grind.{common_steps}
use Rattle.std.proofs.lemmas.Result.{err_from_is_err_and}
use Rattle.asn1_core.proofs.PartLoops.{goes_on}
use Rattle.pkcs8.specs.PrivateKeyInfo.{further_at}
use Rattle.pkcs8.proofs.FurtherFields.{fields_fail}
use Rattle.pkcs8.proofs.fields.skip_further_fields.Goals as goal

pub loop-r-preserved : goal.loop-r-preserved
loop-r-preserved c =
    (c.loop-r.invariant.0 ++ tt ∷ [], goes_on further_at c.args.octets.now c.loop-r.r.rest.now c.skip_further_field.new.r.rest.now c.loop-r.invariant.0 tt c.in_ok-skip_further_field.ensures.shorter c.in_ok-skip_further_field.ensures.exact c.loop-r.invariant.1)

pub returns-in_err-skip_further_field : goal.returns-in_err-skip_further_field
returns-in_err-skip_further_field c =
    let p = err_from_is_err_and c.from_residual.result c.from_residual.ensures.1 in
    rw (p.1, p.2) (fields_fail c.args.octets.now c.loop-r.r.rest.now (grind (arith, common_steps)) c.loop-r.invariant c.in_err-skip_further_field.field-0.0 c.in_err-skip_further_field.ensures.exact.1)

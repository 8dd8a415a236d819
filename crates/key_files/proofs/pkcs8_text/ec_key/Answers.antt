use Rattle.std.proofs.Common.{refl}
use Rattle.std.specs.Prelude.{None}
use Rattle.spki.specs.Seen.{borrowed_any}
use Rattle.key_files.specs.Algorithms.{ec_public_key}
use Rattle.key_files.specs.Ec.{seen_ec}
use Rattle.key_files.specs.Keys.{IsKeyOf, RefusesEc, RefusesToWrap, Wraps}
use Rattle.key_files.specs.declared.key_form.KeyForm.TheVariants as forms
use Rattle.key_files.proofs.Wrapped.{ec_refused, if_err, if_ok}
use Rattle.key_files.proofs.pkcs8_text.ec_key.Goals as goal

pub returns-in-Some-clause-ok : goal.returns-in-Some-clause-ok
returns-in-Some-clause-ok c =
    let p = borrowed_any c.in-Some.parameters in
    if_ok c.wrapped_ec.result (Wraps ec_public_key p c.args.octets.now) (IsKeyOf forms.Ec c.args.octets.now None 0)
    (λ k w. (seen_ec c.in-Ok.key, p, c.in-Ok.ensures, rw c.in-Some.is refl, w)) c.wrapped_ec.ensures.ok

pub returns-in-Some-clause-err : goal.returns-in-Some-clause-err
returns-in-Some-clause-err c =
    let p = borrowed_any c.in-Some.parameters in
    if_err c.wrapped_ec.result (RefusesToWrap ec_public_key p c.args.octets.now) (RefusesEc c.args.octets.now)
    (ec_refused c.args.octets.now (seen_ec c.in-Ok.key) p c.in-Ok.ensures (rw c.in-Some.is refl)) c.wrapped_ec.ensures.err

pub returns-in-None-clause-err : goal.returns-in-None-clause-err
returns-in-None-clause-err c = (seen_ec c.in-Ok.key, c.in-Ok.ensures, rw c.in-None.is refl)

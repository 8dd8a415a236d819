use Rattle.std.proofs.Common.{[]}
use Rattle.std.specs.Prelude.{None}
use Rattle.key_files.specs.Algorithms.{rsa_encryption}
use Rattle.key_files.specs.Keys.{IsKeyOf, Wraps}
use Rattle.key_files.specs.Rsa.{seen_rsa}
use Rattle.key_files.specs.declared.key_form.KeyForm.TheVariants as forms
use Rattle.key_files.proofs.Wrapped.{if_ok}
use Rattle.key_files.proofs.pkcs8_text.rsa_key.Goals as goal

pub returns-in-Ok-clause-ok : goal.returns-in-Ok-clause-ok
returns-in-Ok-clause-ok c =
    if_ok c.wrapped_rsa.result (Wraps rsa_encryption (5, []) c.args.octets.now) (IsKeyOf forms.Rsa c.args.octets.now None 0)
    (λ k w. (seen_rsa c.in-Ok.field-0, c.in-Ok.ensures, w)) c.wrapped_rsa.ensures.ok

use Rattle.std.proofs.Common.{◌++◌, ap, ◌∙◌}
use Rattle.pkcs12_kdf.specs.Derivation.{fill}
use Rattle.pkcs12_kdf.proofs.derivation.first_inputs.Goals as goal

pub returns : goal.returns
returns c =
    c.in_ok-push_filled-2.ensures ∙ ap (λ s. s ++ fill c.args.block c.args.password.now)
    (c.in_ok-push_filled.ensures ∙ ap (λ s. s ++ fill c.args.block c.args.salt.now) c.new-inputs.ensures.items)

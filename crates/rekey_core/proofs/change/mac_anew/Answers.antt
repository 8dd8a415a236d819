use Rattle.std.proofs.Common.{◌∙◌}
use Rattle.rekey_core.proofs.Writing.{units_fit}
use Rattle.rekey_core.proofs.change.mac_anew.Goals as goal

pub with_salt-made-requires-clause-password : goal.with_salt-made-requires-clause-password
with_salt-made-requires-clause-password c = units_fit c.args.new.now _ (c.as_slice-key.ensures ∙ c.in-Ok.ensures.ok) c.requires.password

pub with_salt_sha256-made-requires-clause-password : goal.with_salt_sha256-made-requires-clause-password
with_salt_sha256-made-requires-clause-password c = units_fit c.args.new.now _ (c.as_slice-key.ensures ∙ c.in-Ok.ensures.ok) c.requires.password

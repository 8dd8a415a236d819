use Rattle.legacy_store.proofs.Schemes.{with_params, without_params}
use Rattle.legacy_store.proofs.scheme.with_cipher.Goals as goal

pub returns-in-Some : goal.returns-in-Some
returns-in-Some c = with_params c.args.cipher c.args.params c.in-Some.found c.in-Some.is

pub returns-in-None : goal.returns-in-None
returns-in-None c = without_params c.args.cipher c.args.params c.in-None.is

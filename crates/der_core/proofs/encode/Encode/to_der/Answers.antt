use Rattle.std.proofs.Common.{◌∙◌, []}
use Rattle.der_core.proofs.encode.Encode.to_der.Goals as goal

pub returns-clause-ok : goal.returns-clause-ok
returns-clause-ok g c = c.into_octets.ensures ∙ c.in_ok-encode.ensures.written.adds [] c.new-w.ensures

use Rattle.std.proofs.Common.{◌∙◌, arith}
use Rattle.std.proofs.lemmas.Grind.{common_steps}
use Rattle.asn1_core.proofs.UnicodeLaws.{ascii_read}
use Rattle.asn1_core.proofs.characters.ascii.Goals as goal

pub returns : goal.returns
returns c = ascii_read c.args.octets.now c.from_string.result (grind (arith, common_steps)) (λ u. c.from_string.ensures ∙ c.in_ok-text.ensures.ok u)

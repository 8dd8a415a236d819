use Rattle.asn1_core.specs.ExactLaws.{whole-exact}
use Rattle.der_core.proofs.laws.canon_is_read.Goals as goal

pub returns : goal.returns
returns g c = λ w short. (whole-exact g.T.Decode.text g.T.Decode.at g.met.T.Choice.exact).again (g.T.Encode.canon c.args.v.now) (g.T.Decode.seen c.args.v.now) (g.met.T.Canonical.canonical c.args.v.now w) short

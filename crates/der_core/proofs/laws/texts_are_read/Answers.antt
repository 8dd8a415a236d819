use Rattle.asn1_core.specs.ExactLaws.{whole-exact}
use Rattle.asn1_core.specs.StandLaws.{whole_found}
use Rattle.der_core.proofs.laws.texts_are_read.Goals as goal

pub returns : goal.returns
returns g c = λ v. (whole_found g.T.Decode.text g.T.Decode.at g.met.T.Choice.exact c.args.bytes.now v, λ h. (whole-exact g.T.Decode.text g.T.Decode.at g.met.T.Choice.exact).again c.args.bytes.now v h.0 h.1)

use Rattle.asn1_core.proofs.One.{one}
use Rattle.der_core.proofs.laws.texts_are_parted.Goals as goal

pub returns : goal.returns
returns g c = λ b d x y v w r s short small is.
    let same = one g.T.Decode.text g.T.Decode.at g.met.T.Choice.exact b d x y v w r s short small is in
    (same.text, same.value, same.rest)

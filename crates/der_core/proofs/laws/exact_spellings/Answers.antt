use Rattle.asn1_core.specs.ExactLaws.{whole-exact}
use Rattle.asn1_core.specs.StandLaws.{whole_found}
use Rattle.asn1_core.proofs.SetLaws.{told_apart, told_back}
use Rattle.der_core.proofs.laws.exact_spellings.Goals as goal

pub returns-clause-written : goal.returns-clause-written
returns-clause-written g c = λ e.
    let found = whole_found g.T.Decode.text g.T.Decode.at g.met.T.Choice.exact c.args.bytes.now (g.T.Decode.seen c.args.v.now) e in
    ((g.met.T.Spelled.spelled c.args.bytes.now c.args.v.now).0 found.0).0

pub returns-clause-exact : goal.returns-clause-exact
returns-clause-exact g c = λ writable.
    let law = g.met.T.Spelled.spelled in
    let again = g.met.T.Canonical.canonical c.args.v.now writable in
    let plain = ((law (g.T.Encode.canon c.args.v.now) c.args.v.now).0 again).1 in (
      λ e.
          let found = whole_found g.T.Decode.text g.T.Decode.at g.met.T.Choice.exact c.args.bytes.now (g.T.Decode.seen c.args.v.now) e in
          (found.1, told_apart g.T.Spelled.spell g.T.Encode.canon c.args.bytes.now c.args.v.now ((law c.args.bytes.now c.args.v.now).0 found.0).1),
      λ h.
          let spells = told_back g.T.Spelled.spell g.T.Encode.canon c.args.bytes.now c.args.v.now plain h.1 in
          (whole-exact g.T.Decode.text g.T.Decode.at g.met.T.Choice.exact).again c.args.bytes.now (g.T.Decode.seen c.args.v.now) ((law c.args.bytes.now c.args.v.now).1 (writable, spells)) h.0,
    )

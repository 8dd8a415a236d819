use Rattle.std.proofs.Common.{[], take, ap, ◌∙◌}
use Rattle.std.proofs.lemmas.List.{take_at}
use Rattle.mac_modes.specs.HmacLaws.{length-hmac}
use Rattle.legacy_store.proofs.pbmac1.hmac_of.Goals as goal

pub returns : goal.returns
returns g c =
    let k = c.args.key.now in
    ap (take g.H.HashFn.OUTPUT) (c.finalize_into.ensures k _ (c.update.ensures k [] c.in-Ok.ensures.1))
    ∙ take_at _ _ g.H.HashFn.OUTPUT (length-hmac g.H.HashFn.digest g.H.HashFn.BLOCK g.H.HashFn.OUTPUT g.met.H.HashFn.digest_length k c.args.content.now)

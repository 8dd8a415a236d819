use Rattle.std.proofs.Common.{◌≡◌, [], take, replicate, ap, ◌∙◌, subst}
use Rattle.std.proofs.lemmas.List.{take-replicate}
use Rattle.pkcs12_kdf.proofs.derivation.start_with.Goals as goal

pub returns : goal.returns
returns g c =
    let octets : take c.BLOCK.result (replicate 128 c.args.id) ≡ replicate g.H.HashFn.BLOCK c.args.id =
    ap (λ n. take n (replicate 128 c.args.id)) c.BLOCK.ensures ∙ take-replicate g.H.HashFn.BLOCK 128 c.args.id g.met.H.HashFn.sizes.block_fits in
    subst (λ m. g.H.HashFn.holds c.update.new.self m) octets (c.update.ensures [] c.start-hasher.ensures)

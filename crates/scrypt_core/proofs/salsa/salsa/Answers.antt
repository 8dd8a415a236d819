use Rattle.std.proofs.Common.{◌∙◌, ap, ap₂}
use Rattle.std.specs.Int.{w32, to_le_bytes}
use Rattle.std.specs.List.{flat_map}
use Rattle.scrypt_core.specs.Salsa.{double_round, double_rounds, sums, salsa}
use Rattle.scrypt_core.proofs.salsa.salsa.Goals as goal

pub returns : goal.returns
unfolding salsa double_rounds
returns c =
    let w = c.load-w.ensures in
    let one = c.double_round-one.ensures ∙ ap double_round w in
    let two = c.double_round-two.ensures ∙ ap double_round one in
    let three = c.double_round-three.ensures ∙ ap double_round two in
    let four = c.double_round-four.ensures ∙ ap double_round three in
    c.store.ensures ∙ ap (flat_map (to_le_bytes w32)) (c.sums.ensures ∙ ap₂ sums four w)

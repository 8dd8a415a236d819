use Rattle.std.proofs.Common.{get_or, ◌<◌, length, arith, bit_xor}
use Rattle.std.proofs.lemmas.List.{get_or_default}
use Rattle.std.proofs.lemmas.List.Edits.{map_over_more}
use Rattle.mac_modes.proofs.hmac.mask_all.Goals as goal

pub loop-octet-preserved : goal.loop-octet-preserved
loop-octet-preserved c =
    let i = c.loop-octet.octet-index in
    let here : i < length c.args.block.now = omega arith in
    let now : i < length c.loop-octet.block = omega arith in
    map_over_more (λ x. bit_xor x c.args.mask) c.args.block.now c.loop-octet.block i (get_or c.loop-octet.block i 0) here c.loop-octet.invariant
    (get_or_default c.loop-octet.block i 0 _ now)

use Rattle.std.proofs.Common.{◌≡◌, refl, ap, ap₂, ◌∙◌, add-one, arith}
use Rattle.block_core.specs.Bits.{xor_each}
use Rattle.mac_modes.specs.Hmac.{hmac}
use Rattle.pbkdf2.proofs.lanes.xor_outputs.Goals as goal
use Rattle.pbkdf2.specs.Pbkdf2.{chained, xor_through}
use Rattle.sha2.specs.Sha256.{sha256}

pub turns-init : goal.turns-init
unfolding chained xor_through
turns-init c = λ j lt k keyed. (refl, refl)

pub turns-preserved : goal.turns-preserved
unfolding chained xor_through
turns-preserved c = λ j lt k keyed.
    let held = c.turns.invariant j lt k keyed in
    let last = c.hmac_words-last.ensures j lt k keyed ∙ ap (hmac sha256 64 k) held.0 in
    (rw add-one last, rw add-one (c.xor_words-sum.ensures j lt ∙ ap₂ xor_each held.1 last))

pub returns : goal.returns
returns c = λ j lt k keyed.
    let done : c.turns.turn ≡ c.args.turns = omega arith in
    rw done at ((c.turns.invariant j lt k keyed).1)

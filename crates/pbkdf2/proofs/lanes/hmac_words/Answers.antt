use Rattle.std.proofs.Common.{◌++◌, ap, ◌∙◌}
use Rattle.mac_modes.specs.Hmac.{hmac, outer_block}
use Rattle.pbkdf2.proofs.lanes.hmac_words.Goals as goal
use Rattle.sha2.specs.Sha256.{sha256}

pub returns : goal.returns
unfolding hmac
returns c = λ j lt k keyed.
    c.finish_96.ensures j lt _ keyed.1
    ∙ ap (λ digest. sha256 (outer_block sha256 64 k ++ digest)) (c.finish_96-middle.ensures j lt _ keyed.0)

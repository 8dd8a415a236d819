use Rattle.pkcs5.specs.Opening.{sha256_key}
use Rattle.sealing_core.specs.declared.drawn.IvAndSalt.{IvAndSalt}
use Rattle.create_core.proofs.PartSealing.{key_at_place, key_fits, part_sealed}
use Rattle.create_core.proofs.sealing.SealingKeys.seal.Goals as goal

pub encrypt_under_key-requires : goal.encrypt_under_key-requires
encrypt_under_key-requires c =
    let s = c.args.self.now in
    let key = key_at_place (λ (d : IvAndSalt). sha256_key s.rounds s.password.now d.salt) s.drawn s.keys c.args.place c.in-Some.drawn.now c.in-Some-get.key.now s.are_derived c.in-Some.ensures.some c.in-Some-get.ensures.some in
    key_fits c.parameters_under-parameters.result s.rounds s.password.now c.in-Some.drawn.now c.in-Some-get.key.now c.parameters_under-parameters.ensures key

pub returns-in-Ok-clause-ok : goal.returns-in-Ok-clause-ok
returns-in-Ok-clause-ok c =
    let s = c.args.self.now in
    let key = key_at_place (λ (d : IvAndSalt). sha256_key s.rounds s.password.now d.salt) s.drawn s.keys c.args.place c.in-Some.drawn.now c.in-Some-get.key.now s.are_derived c.in-Some.ensures.some c.in-Some-get.ensures.some in
    part_sealed c.parameters_under-parameters.result s.rounds s.password.now s.drawn c.args.place c.in-Some.drawn.now c.in-Some-get.key.now c.in-Ok.text c.as_slice.result.now c.args.text.now c.in-Some.ensures.some c.parameters_under-parameters.ensures s.some_rounds key
    c.in-Ok.ensures.ok c.as_slice.ensures c.are_octets.ensures

use Rattle.rekey_core.proofs.Derived.{key_fits, opens_by_key, size_by_key}
use Rattle.rekey_core.proofs.algorithm.seal_by_key.Goals as goal

pub encrypt_under_key-requires : goal.encrypt_under_key-requires
encrypt_under_key-requires c = key_fits c.parameters_anew-parameters.result c.args.rounds c.args.drawn.now c.args.key.now c.parameters_anew-parameters.ensures c.requires.key

pub returns-in-Ok-clause-opens : goal.returns-in-Ok-clause-opens
returns-in-Ok-clause-opens c = opens_by_key c.parameters_anew-parameters.result c.args.rounds c.args.drawn.now c.args.key.now c.in-Ok.text c.args.text.now c.parameters_anew-parameters.ensures c.requires.rounds c.in-Ok.ensures.ok

pub returns-in-Ok-clause-size : goal.returns-in-Ok-clause-size
returns-in-Ok-clause-size c = size_by_key c.parameters_anew-parameters.result c.args.rounds c.args.drawn.now c.in-Ok.text c.args.text.now c.parameters_anew-parameters.ensures c.in-Ok.ensures.length

use Rattle.pkcs12_c.proofs.Answered.{change_random_enough}
use Rattle.pkcs12_c.proofs.exports.pkcs12_rekey.Goals as goal

pub returns-clause-random : goal.returns-clause-random
returns-clause-random c =
    change_random_enough c.args.store.now c.args.password.now c.args.new_password.now c.args.random.now c.args.limit c.args.output.now c.rekey.new.output c.rekey.new.needed c.rekey.result c.rekey.ensures
    c.stores_suffice.ensures.changed c.number_of.result c.number_of.ensures

use Rattle.pkcs12_c.proofs.Creations.{created_random_enough, created_room}
use Rattle.pkcs12_c.proofs.exports.pkcs12_create_pem.Goals as goal

pub returns-clause-room : goal.returns-clause-room
returns-clause-room c =
    created_room _ c.args.random.now c.args.output.now c.create_pem.new.output c.create_pem.new.needed c.create_pem.result c.create_pem.ensures c.number_of.result c.number_of.ensures

pub returns-clause-random : goal.returns-clause-random
returns-clause-random c =
    created_random_enough _ c.args.random.now c.args.output.now c.create_pem.new.output c.create_pem.new.needed c.create_pem.result c.create_pem.ensures c.number_of.result c.number_of.ensures

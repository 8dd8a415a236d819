use Rattle.pkcs12_c.proofs.Answered.{random_enough, transfer_room}
use Rattle.pkcs12_c.proofs.exports.pkcs12_transfer_pem.Goals as goal

pub returns-clause-room : goal.returns-clause-room
returns-clause-room c =
    transfer_room c.args.store.now c.args.password.now c.args.new_password.now c.args.random.now c.args.rounds c.args.limit c.args.output.now c.transfer_pem.new.output c.transfer_pem.new.needed
    c.transfer_pem.result c.transfer_pem.ensures c.stores_suffice.ensures.transferred c.number_of.result c.number_of.ensures

pub returns-clause-random : goal.returns-clause-random
returns-clause-random c =
    random_enough c.args.store.now c.args.password.now c.args.new_password.now c.args.random.now c.args.rounds c.args.limit c.args.output.now c.transfer_pem.new.output c.transfer_pem.new.needed
    c.transfer_pem.result c.transfer_pem.ensures c.stores_suffice.ensures.sealed c.number_of.result c.number_of.ensures

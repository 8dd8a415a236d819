use Rattle.pkcs12_c.proofs.Answered.{open_room}
use Rattle.pkcs12_c.proofs.exports.pkcs12_open_pem.Goals as goal

pub returns-clause-room : goal.returns-clause-room
returns-clause-room c =
    open_room c.args.store.now c.args.password.now c.args.limit c.args.output.now c.open_pem.new.output c.open_pem.new.needed c.open_pem.result c.open_pem.ensures c.stores_suffice.ensures.opened
    c.number_of.result c.number_of.ensures

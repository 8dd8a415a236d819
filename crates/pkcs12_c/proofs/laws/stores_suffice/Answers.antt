use Rattle.pkcs12_c.proofs.Rooms.{changes_draw_within, openings_fit, stores_outnumber, transfers_fit}
use Rattle.pkcs12_c.proofs.laws.stores_suffice.Goals as goal

pub returns-clause-transferred : goal.returns-clause-transferred
returns-clause-transferred c = transfers_fit c.written_keys_are_shortest.ensures c.ciphertexts_have_one_length.ensures

pub returns-clause-opened : goal.returns-clause-opened
returns-clause-opened c = openings_fit c.written_keys_are_shortest.ensures c.ciphertexts_have_one_length.ensures

pub returns-clause-sealed : goal.returns-clause-sealed
returns-clause-sealed c = stores_outnumber c.written_keys_are_shortest.ensures c.ciphertexts_have_one_length.ensures

pub returns-clause-changed : goal.returns-clause-changed
returns-clause-changed c = changes_draw_within c.ciphertexts_have_one_length.ensures

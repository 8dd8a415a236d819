use Rattle.p12_laws.proofs.Made.{made_is_read, made_is_written}
use Rattle.p12_laws.proofs.made_stores.a_made_store_is_read_again.Goals as goal

pub returns-clause-writable : goal.returns-clause-writable
returns-clause-writable c = made_is_written

pub returns-clause-read : goal.returns-clause-read
returns-clause-read c = made_is_read

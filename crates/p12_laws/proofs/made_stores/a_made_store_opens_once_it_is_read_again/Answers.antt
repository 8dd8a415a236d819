use Rattle.p12_laws.proofs.Made.{reread_agrees, reread_gives_back, reread_holds}
use Rattle.p12_laws.proofs.made_stores.a_made_store_opens_once_it_is_read_again.Goals as goal

pub returns-clause-opens : goal.returns-clause-opens
returns-clause-opens c = reread_holds

pub returns-clause-gives : goal.returns-clause-gives
returns-clause-gives c = reread_gives_back

pub returns-clause-mac : goal.returns-clause-mac
returns-clause-mac c = reread_agrees

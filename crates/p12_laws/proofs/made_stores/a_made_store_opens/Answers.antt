use Rattle.p12_laws.proofs.Made.{made_agrees, made_gives_back, made_holds}
use Rattle.p12_laws.proofs.made_stores.a_made_store_opens.Goals as goal

pub returns-clause-opens : goal.returns-clause-opens
returns-clause-opens c = made_holds

pub returns-clause-gives : goal.returns-clause-gives
returns-clause-gives c = made_gives_back

pub returns-clause-mac : goal.returns-clause-mac
returns-clause-mac c = made_agrees

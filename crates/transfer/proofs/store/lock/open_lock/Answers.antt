use Rattle.std.proofs.Common.{rules}
use Rattle.std.proofs.lemmas.Slice.{overwrites}
use Rattle.transfer.proofs.store.lock.open_lock.Goals as goal

pub returns-clause-kept : goal.returns-clause-kept
returns-clause-kept g c = (search (rules, overwrites), search (rules, overwrites))

pub returns-in_err-len-clause-kept : goal.returns-in_err-len-clause-kept
returns-in_err-len-clause-kept g c = (search (rules, overwrites), search (rules, overwrites))

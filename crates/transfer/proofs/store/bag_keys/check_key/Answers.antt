use Rattle.std.proofs.Common.{refl}
use Rattle.transfer.proofs.StoredKeys.{opened_text}
use Rattle.transfer.proofs.store.bag_keys.check_key.Goals as goal

pub returns-in-Some-clause-ok : goal.returns-in-Some-clause-ok
returns-in-Some-clause-ok c = opened_text c.in-Some.field-0 c.args.text.now c.in-Some.ensures.some.0 c.in-Some.ensures.some.1

pub returns-in-None-clause-err : goal.returns-in-None-clause-err
returns-in-None-clause-err c = (refl, c.opened_key.ensures.none c.in-None.is)

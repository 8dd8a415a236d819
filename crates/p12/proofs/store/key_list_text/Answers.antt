use Rattle.p12.specs.Building.{seen_entry}
use Rattle.p12.proofs.MadeRefusals.{key_made, key_refused}
use Rattle.p12.proofs.store.key_list_text.Goals as goal

pub returns-clause-ok : goal.returns-clause-ok
returns-clause-ok c =
    let o = c.in_ok-key.ensures.ok in
    key_made (seen_entry c.args.entry) c.args.salt.now o.0 c.in_ok-key.key o.2 c.args.password.now o.1 c.all_to_der.result c.all_to_der.ensures

pub returns-clause-err : goal.returns-clause-err
returns-clause-err c =
    let o = c.in_ok-key.ensures.ok in
    key_refused (seen_entry c.args.entry) c.args.salt.now o.0 c.in_ok-key.key o.2 c.requires.salt o.1.size c.all_to_der.result c.all_to_der.ensures

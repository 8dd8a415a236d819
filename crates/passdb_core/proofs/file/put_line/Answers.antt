use Rattle.std.proofs.Common.{subst, sym, ◌∙◌}
use Rattle.phc_core.specs.Ident.{IsIdent}
use Rattle.passdb_core.specs.Entries.{Above}
use Rattle.passdb_core.proofs.Files.{err_as, no_pair, on_ok_both, pair_at, pair_parts}
use Rattle.passdb_core.proofs.file.put_line.Goals as goal

pub returns-in_default-clause-refused : goal.returns-in_default-clause-refused
returns-in_default-clause-refused c = λ name e is above. no_pair c.args.line.now c.in_default.ensures name e is

pub returns-in_default-name_of-clause-refused : goal.returns-in_default-name_of-clause-refused
returns-in_default-name_of-clause-refused c = λ name e is above.
    let k = pair_parts c.args.line.now c.in-Some.name.now c.in-Some.written.now name e c.in-Some.ensures is in
    c.in_default-name_of.ensures (subst IsIdent (sym k.0) is.named)

pub returns-in_default-entry_of-clause-refused : goal.returns-in_default-entry_of-clause-refused
returns-in_default-entry_of-clause-refused c = λ name e is above.
    let k = pair_parts c.args.line.now c.in-Some.name.now c.in-Some.written.now name e c.in-Some.ensures is in
    c.in_default-entry_of.ensures e is.entry k.1

pub returns-clause-put : goal.returns-clause-put
returns-clause-put c =
    on_ok_both c.put_last.result _ _ _ (λ put above. (
      c.in-Some-name_of.name,
      c.in-Some-entry_of.entry,
      pair_at c.args.line.now c.in-Some.name.now c.in-Some.written.now c.in-Some-name_of.name c.in-Some-entry_of.entry c.in-Some.ensures c.in-Some-name_of.ensures.0 c.in-Some-name_of.ensures.1
          c.in-Some-entry_of.ensures.0 c.in-Some-entry_of.ensures.1,
      above,
      put,
    )) c.put_last.ensures.put c.put_last.ensures.above

pub returns-clause-refused : goal.returns-clause-refused
returns-clause-refused c =
    err_as c.put_last.result _ _ (λ low name e is above.
    low (subst (Above c.args.db.now.entries) (sym (c.in-Some-name_of.ensures.0 ∙ (pair_parts c.args.line.now c.in-Some.name.now c.in-Some.written.now name e c.in-Some.ensures is).0)) above))
    c.put_last.ensures.refused

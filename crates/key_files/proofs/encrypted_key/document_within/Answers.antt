use Rattle.std.proofs.Common.{◌≡◌, sym, subst, inr, arith, rules}
use Rattle.std.specs.Prelude.{Some, None}
use Rattle.key_files.specs.Keys.{RefusesDocument, scheme_rounds}
use Rattle.key_files.specs.declared.key_refusal.KeyRefusal.{KeyRefusal}
use Rattle.key_files.proofs.Refusals.{document_refused}
use Rattle.key_files.proofs.encrypted_key.document_within.Goals as goal

pub returns-in-Err-clause-err : goal.returns-in-Err-clause-err
returns-in-Err-clause-err c =
    subst (λ (e : KeyRefusal). RefusesDocument c.args.octets.now c.args.limit e) (sym c.unread.ensures) (document_refused c.args.octets.now c.args.limit c.in-Err.error c.in-Err.ensures)

pub returns-in-Some-2-clause-err : goal.returns-in-Some-2-clause-err
returns-in-Some-2-clause-err c =
    let d = c.in-Ok.document in
    let counted : scheme_rounds d.encryption_algorithm ≡ Some c.in-Some-2.field-0 = first_of (cc, search rules) in
    let same : c.in-Some.rounds ≡ c.in-Some-2.field-0 = first_of (cc, search rules) in
    (d.encryption_algorithm, d.encrypted_data.octets.now, c.in-Some-2.field-0, c.in-Ok.ensures, counted, omega arith)

pub returns-in-None-clause-err : goal.returns-in-None-clause-err
returns-in-None-clause-err c =
    let d = c.in-Ok.document in
    let none : scheme_rounds d.encryption_algorithm ≡ None = first_of (cc, search rules) in
    inr (d.encryption_algorithm, d.encrypted_data.octets.now, c.in-Ok.ensures, none)

use Rattle.std.proofs.Common.{subst, sym}
use Rattle.phc_core.specs.Ident.{IsIdent}
use Rattle.passdb_core.specs.Commands.{IsPassword}
use Rattle.passdb_core.proofs.Cuts.{cut_is, ident_no_space, no_cut}
use Rattle.passdb_core.proofs.Words.{refused}
use Rattle.passdb_core.proofs.reading.name_and_password.Goals as goal

pub returns-in_default : goal.returns-in_default
returns-in_default c = λ name w is too e. no_cut 32 c.args.text.now name w c.in_default.ensures e

pub returns-in_default-name_of : goal.returns-in_default-name_of
returns-in_default-name_of c = λ name w is too e.
    let k = cut_is 32 c.args.text.now c.in-Some.name.now c.in-Some.password.now name w c.in-Some.ensures (ident_no_space name is) e in
    c.in_default-name_of.ensures (subst IsIdent (sym k.0) is)

pub returns-then-not-is_password : goal.returns-then-not-is_password
returns-then-not-is_password c = λ name w is too e.
    let k = cut_is 32 c.args.text.now c.in-Some.name.now c.in-Some.password.now name w c.in-Some.ensures (ident_no_space name is) e in
    refused _ (IsPassword c.in-Some.password.now) c.is_password.ensures c.if-not-is_password.true (subst IsPassword (sym k.1) too)

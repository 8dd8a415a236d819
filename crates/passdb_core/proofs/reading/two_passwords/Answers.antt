use Rattle.std.proofs.Common.{subst, sym}
use Rattle.passdb_core.specs.Commands.{IsPassword}
use Rattle.passdb_core.proofs.Cuts.{cut_is, no_cut, password_no_space}
use Rattle.passdb_core.proofs.Words.{refused}
use Rattle.passdb_core.proofs.reading.two_passwords.Goals as goal

pub returns-in_default : goal.returns-in_default
returns-in_default c = λ v w is too e. no_cut 32 c.args.text.now v w c.in_default.ensures e

pub returns-then-not-is_password : goal.returns-then-not-is_password
returns-then-not-is_password c = λ v w is too e.
    let k = cut_is 32 c.args.text.now c.in-Some.old.now c.in-Some.new.now v w c.in-Some.ensures (password_no_space v is) e in
    refused _ (IsPassword c.in-Some.old.now) c.is_password.ensures c.if-not-is_password.true (subst IsPassword (sym k.0) is)

pub returns-then-not-is_password-2 : goal.returns-then-not-is_password-2
returns-then-not-is_password-2 c = λ v w is too e.
    let k = cut_is 32 c.args.text.now c.in-Some.old.now c.in-Some.new.now v w c.in-Some.ensures (password_no_space v is) e in
    refused _ (IsPassword c.in-Some.new.now) c.is_password-2.ensures c.if-not-is_password-2.true (subst IsPassword (sym k.1) too)

use Rattle.std.proofs.Common.{subst, sym}
use Rattle.phc_core.specs.Ident.{IsIdent}
use Rattle.passdb_core.proofs.Cuts.{cut_is, ident_no_space, no_cut}
use Rattle.passdb_core.proofs.reading.name_and_passwords.Goals as goal

pub returns-in_default : goal.returns-in_default
returns-in_default c = λ name v w is too three e. no_cut 32 c.args.text.now name _ c.in_default.ensures e

pub returns-in_default-name_of : goal.returns-in_default-name_of
returns-in_default-name_of c = λ name v w is too three e.
    let k = cut_is 32 c.args.text.now c.in-Some.name.now c.in-Some.back.now name _ c.in-Some.ensures (ident_no_space name is) e in
    c.in_default-name_of.ensures (subst IsIdent (sym k.0) is)

pub returns-in-None : goal.returns-in-None
returns-in-None c = λ name v w is too three e.
    let k = cut_is 32 c.args.text.now c.in-Some.name.now c.in-Some.back.now name _ c.in-Some.ensures (ident_no_space name is) e in
    c.in-None.ensures v w too three k.1

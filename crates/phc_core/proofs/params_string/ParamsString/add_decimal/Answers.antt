use Rattle.std.proofs.Common.{◌≢◌, ◌≤◌, length, arith, rules, ap, sym, ◌∙◌, subst}
use Rattle.std.specs.Prelude.{codes}
use Rattle.phc_core.specs.Ident.{IsIdent}
use Rattle.phc_core.specs.ParamsString.{IsParams, LacksName, pairs_of}
use Rattle.phc_core.proofs.Added.{line_is, params_added, pairs_added}
use Rattle.phc_core.proofs.params_string.ParamsString.add_decimal.Goals as goal

pub invariant_of-self : goal.invariant_of-self
invariant_of-self c =
    let ident : IsIdent c.args.name.now = search (rules, c.is_ident.ensures) in
    let other : c.args.name.now ≢ codes "v" = search (rules, c.eq.ensures) in
    let lacks : LacksName c.args.name.now (pairs_of c.args.self.now) = search (rules, c.lacks.ensures) in
    let same = line_is c.as_text.result.now c.args.self.now c.args.name.now c.format.result.now c.args.n c.as_text.ensures.value c.format.ensures.text in
    subst IsParams (sym (c.into_octets-self-inside.ensures ∙ (c.in-Ok.ensures.ok ∙ same)))
    (params_added c.args.self.now c.args.name.now c.args.n c.as_text.ensures.grammar (omega arith) (ident, other, lacks, subst (λ l. length l ≤ 127) same c.in-Ok.ensures.fits))

pub returns-clause-pairs : goal.returns-clause-pairs
returns-clause-pairs c =
    let ident : IsIdent c.args.name.now = search (rules, c.is_ident.ensures) in
    let same = line_is c.as_text.result.now c.args.self.now c.args.name.now c.format.result.now c.args.n c.as_text.ensures.value c.format.ensures.text in
    ap pairs_of (c.into_octets-self-inside.ensures ∙ (c.in-Ok.ensures.ok ∙ same)) ∙ pairs_added c.args.self.now c.args.name.now c.args.n ident (omega arith)

use Rattle.std.proofs.Common.{◌≡◌, inl, inr, ap, rules}
use Rattle.std.specs.Prelude.{codes}
use Rattle.phc_core.specs.declared.error.Error.TheVariants.{ParamInvalid}
use Rattle.pbkdf2.proofs.params_text.read_pair.Goals as goal

pub returns-in-None-clause-err : goal.returns-in-None-clause-err
returns-in-None-clause-err c =
    let named : c.args.name ≡ codes "i" = search rules in
    inl (named, λ n h. c.in-None.ensures.none n h.1 h.2 h.3, ap ParamInvalid named)

pub returns-in-None-length_in-clause-err : goal.returns-in-None-length_in-clause-err
returns-in-None-length_in-clause-err c =
    let named : c.args.name ≡ codes "l" = search rules in
    inr (inl (named, λ n h. c.in-None-length_in.ensures.none n h.1 h.2, ap ParamInvalid named))

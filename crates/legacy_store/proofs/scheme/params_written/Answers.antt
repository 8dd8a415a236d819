use Rattle.std.proofs.Common.{◌∙◌, ℕ, List, ap, subst, sym}
use Rattle.asn1_core.specs.Gives.{Fails}
use Rattle.asn1_core.specs.Reading.{whole}
use Rattle.p12.specs.Reading.{params_at}
use Rattle.legacy_store.specs.Scheme.{seen_params}
use Rattle.legacy_store.proofs.Schemes.{none_found, params_found}
use Rattle.legacy_store.proofs.scheme.params_written.Goals as goal

pub returns-in-Ok : goal.returns-in-Ok
returns-in-Ok c = params_found (seen_params c.in-Ok.params) (whole params_at c.args.octets.now) (ap (whole params_at) (sym c.new.ensures.all) ∙ c.in-Ok.ensures)

pub returns-in-Err : goal.returns-in-Err
returns-in-Err c =
    none_found c.in-Err.field-0 (whole params_at c.args.octets.now) (subst (λ (b : List ℕ). Fails ⊥ c.in-Err.field-0 (whole params_at b)) c.new.ensures.all c.in-Err.ensures)

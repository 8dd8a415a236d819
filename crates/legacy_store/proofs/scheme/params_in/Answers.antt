use Rattle.std.proofs.Common.{◌∙◌, ℕ, List, ap, sym}
use Rattle.asn1_core.specs.Reading.{whole}
use Rattle.p12.specs.Reading.{params_at}
use Rattle.legacy_store.specs.Scheme.{found_params, params_in}
use Rattle.legacy_store.proofs.scheme.params_in.Goals as goal

pub returns-in-Some : goal.returns-in-Some
returns-in-Some c =
    c.params_written.ensures ∙ ap (λ (b : List ℕ). found_params (whole params_at b)) c.as_slice.ensures ∙ ap params_in (sym c.in-Some.is)

pub returns-in-None : goal.returns-in-None
returns-in-None c = ap params_in (sym c.in-None.is)

use Rattle.std.proofs.Common.{◌≡◌, ℕ, List, Ok, refl, subst}
use Rattle.asn1_core.specs.Gives.{Fails}
use Rattle.asn1_core.specs.Reading.{raw_at}
use Rattle.p12.proofs.TextRefusals.{no_element, whole_element}
use Rattle.p12.proofs.writing.check_element.Goals as goal

pub returns-in-Ok : goal.returns-in-Ok
returns-in-Ok c =
    let at = subst (λ (b : List ℕ). raw_at b ≡ Ok (c.in-Ok.field-0.now, c.read_raw.new.r.rest.now)) c.new-r.ensures.all c.in-Ok.ensures.exact in
    whole_element c.args.octets.now c.in-Ok.field-0.now c.read_raw.new.r.rest.now at c.finish.result c.finish.ensures

pub returns-in-Err : goal.returns-in-Err
returns-in-Err c = (refl, no_element c.args.octets.now c.in-Err.field-0 (subst (λ (b : List ℕ). Fails ⊥ c.in-Err.field-0 (raw_at b)) c.new-r.ensures.all c.in-Err.ensures.exact.1))

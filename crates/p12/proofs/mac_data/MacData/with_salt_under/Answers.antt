use Rattle.std.proofs.Common.{ap, ◌∙◌, sym}
use Rattle.std.specs.Prelude.{List, ℕ}
use Rattle.p12.specs.MacData.{mac_agrees}
use Rattle.p12.proofs.Macs.{mac_is, mac_of_agrees}
use Rattle.p12.proofs.mac_data.MacData.with_salt_under.Goals as goal

pub returns-clause-value : goal.returns-clause-value
returns-clause-value g c =
    let a = c.args in
    let made = c.in_ok-digest.ensures.value ∙ ap (λ (f : List ℕ → List ℕ → ℕ → List ℕ → List ℕ). f a.password.now a.salt.now a.iterations a.content.now) (sym c.requires.hash) in
    mac_is a.digest_algorithm _ _ _ _ _ _ made c.in_ok-salt.ensures

pub returns-clause-agrees : goal.returns-clause-agrees
returns-clause-agrees g c =
    ap (λ m. mac_agrees m c.args.password.now c.args.content.now) (returns-clause-value g c) ∙ mac_of_agrees c.args.digest_algorithm _ _ _ _ c.requires.digest c.requires.iterations

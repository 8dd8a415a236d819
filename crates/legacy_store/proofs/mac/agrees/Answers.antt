use Rattle.std.proofs.Common.{◌≡◌, ◌+◌, ◌≤◌, arith, subst}
use Rattle.std.specs.Prelude.{OnOk}
use Rattle.legacy_store.specs.Forms.{seen_forms}
use Rattle.legacy_store.specs.Mac.{mac_cost, mac_count}
use Rattle.legacy_store.specs.Pbmac1.{pbmac1_cost}
use Rattle.legacy_store.specs.declared.mac.MacScheme.TheVariants.{ByHash, ByPbmac1}
use Rattle.legacy_store.proofs.Hashes.{agrees_as, cost_is, count_is}
use Rattle.legacy_store.proofs.mac.agrees.Goals as goal

pub agrees_by-requires-clause-rounds : goal.agrees_by-requires-clause-rounds
agrees_by-requires-clause-rounds g c =
    let m = c.args.mac.now in
    let count : m.iterations ≡ mac_count m = count_is m c.mac_scheme.result c.in-Some-ByHash.field-0 (ByHash c.in-Some-ByHash.hash) c.mac_scheme.ensures c.in-Some-ByHash.is c.in-Some-ByHash.field-0-is in
    omega (arith, c.requires.rounds, count)

pub agrees-requires : goal.agrees-requires
agrees-requires g c =
    let m = c.args.mac.now in
    let s = c.in-Some-ByPbmac1.scheme in
    let count : s.derivation.iteration_count ≡ mac_count m = count_is m c.mac_scheme.result c.in-Some-ByPbmac1.field-0 (ByPbmac1 s) c.mac_scheme.ensures c.in-Some-ByPbmac1.is c.in-Some-ByPbmac1.field-0-is in
    record { rounds = omega (arith, c.requires.rounds, count) }

pub returns-in-Some-ByHash-clause-value : goal.returns-in-Some-ByHash-clause-value
returns-in-Some-ByHash-clause-value g c =
    agrees_as c.args.mac.now c.mac_scheme.result c.in-Some-ByHash.field-0 (ByHash c.in-Some-ByHash.hash) c.mac_scheme.ensures c.in-Some-ByHash.is c.in-Some-ByHash.field-0-is c.agrees_by.result (seen_forms c.args.secret.now) c.args.text.now c.agrees_by.ensures.value

pub returns-in-Some-ByHash-clause-steps : goal.returns-in-Some-ByHash-clause-steps
returns-in-Some-ByHash-clause-steps g c =
    let m = c.args.mac.now in
    let cost : m.iterations ≡ mac_cost m = cost_is m c.mac_scheme.result c.in-Some-ByHash.field-0 (ByHash c.in-Some-ByHash.hash) c.mac_scheme.ensures c.in-Some-ByHash.is c.in-Some-ByHash.field-0-is in
    subst (λ n. OnOk c.agrees_by.result (c.agrees_by.new.steps ≡ c.args.steps.now + n)) cost c.agrees_by.ensures.steps

pub returns-in-Some-ByHash-clause-at_most : goal.returns-in-Some-ByHash-clause-at_most
returns-in-Some-ByHash-clause-at_most g c =
    let m = c.args.mac.now in
    let cost : m.iterations ≡ mac_cost m = cost_is m c.mac_scheme.result c.in-Some-ByHash.field-0 (ByHash c.in-Some-ByHash.hash) c.mac_scheme.ensures c.in-Some-ByHash.is c.in-Some-ByHash.field-0-is in
    (c.agrees_by.ensures.at_most.0, omega (arith, cost, c.agrees_by.ensures.at_most.1))

pub returns-in-Some-ByPbmac1-clause-value : goal.returns-in-Some-ByPbmac1-clause-value
returns-in-Some-ByPbmac1-clause-value g c =
    agrees_as c.args.mac.now c.mac_scheme.result c.in-Some-ByPbmac1.field-0 (ByPbmac1 c.in-Some-ByPbmac1.scheme) c.mac_scheme.ensures c.in-Some-ByPbmac1.is c.in-Some-ByPbmac1.field-0-is c.agrees.result (seen_forms c.args.secret.now) c.args.text.now
    (rw (c.as_bytes.ensures.value, c.as_slice-digest.ensures) at c.agrees.ensures.value)

pub returns-in-Some-ByPbmac1-clause-steps : goal.returns-in-Some-ByPbmac1-clause-steps
returns-in-Some-ByPbmac1-clause-steps g c =
    let s = c.in-Some-ByPbmac1.scheme in
    let cost : pbmac1_cost s ≡ mac_cost c.args.mac.now = cost_is c.args.mac.now c.mac_scheme.result c.in-Some-ByPbmac1.field-0 (ByPbmac1 s) c.mac_scheme.ensures c.in-Some-ByPbmac1.is c.in-Some-ByPbmac1.field-0-is in
    subst (λ n. OnOk c.agrees.result (c.agrees.new.steps ≡ c.args.steps.now + n)) cost c.agrees.ensures.steps

pub returns-in-Some-ByPbmac1-clause-at_most : goal.returns-in-Some-ByPbmac1-clause-at_most
returns-in-Some-ByPbmac1-clause-at_most g c =
    let s = c.in-Some-ByPbmac1.scheme in
    let cost : pbmac1_cost s ≡ mac_cost c.args.mac.now = cost_is c.args.mac.now c.mac_scheme.result c.in-Some-ByPbmac1.field-0 (ByPbmac1 s) c.mac_scheme.ensures c.in-Some-ByPbmac1.is c.in-Some-ByPbmac1.field-0-is in
    (c.agrees.ensures.at_most.0, subst (λ n. c.agrees.new.steps ≤ c.args.steps.now + n) cost c.agrees.ensures.at_most.1)

use Rattle.std.proofs.Common.{◌≡◌, ℕ, ◌+◌, ◌<◌, ap, ◌∙◌, arith}
use Rattle.std.proofs.lemmas.Bool.Decides.{nat_tests}
use Rattle.pkcs5.specs.Kinds.{rounds_of}
use Rattle.p12.proofs.Pbes2.{left_no_rounds, left_refused, no_rounds_no_steps, opened_steps, pbes2_no_rounds, pbes2_none, pbes2_some, refused_steps}
use Rattle.p12.proofs.opening.open_pbes2.Goals as goal

pub returns-then-rounds_of-eq0-clause-none : goal.returns-then-rounds_of-eq0-clause-none
returns-then-rounds_of-eq0-clause-none g c = pbes2_no_rounds _ _ _ (let none : rounds_of c.args.parameters.now.kdf ≡ 0 = grind (arith, nat_tests, c.rounds_of.ensures, c.if-rounds_of-eq0.true) in none)

pub returns-then-rounds_of-eq0-clause-left : goal.returns-then-rounds_of-eq0-clause-left
returns-then-rounds_of-eq0-clause-left g c = left_no_rounds _ _ _ (let none : rounds_of c.args.parameters.now.kdf ≡ 0 = grind (arith, nat_tests, c.rounds_of.ensures, c.if-rounds_of-eq0.true) in none)

pub returns-then-rounds_of-eq0-clause-steps : goal.returns-then-rounds_of-eq0-clause-steps
returns-then-rounds_of-eq0-clause-steps g c =
    let none : rounds_of c.args.parameters.now.kdf ≡ 0 = grind (arith, nat_tests, c.rounds_of.ensures, c.if-rounds_of-eq0.true) in
    let zero = no_rounds_no_steps c.args.parameters.now c.args.buffer.now none in
    omega (arith, zero)

pub returns-in-Ok-clause-some : goal.returns-in-Ok-clause-some
returns-in-Ok-clause-some g c =
    let some : 0 < rounds_of c.args.parameters.now.kdf = grind (arith, nat_tests, c.rounds_of.ensures, c.if-rounds_of-eq0.false) in
    let size = c.decrypt_in_place_counted.auto.buffer in
    (omega (arith, c.in-Ok.ensures.behind.0, size), pbes2_some c.args.parameters.now c.args.password.now c.args.buffer.now _ c.in-Ok.ensures.ok.0 some c.in-Ok.ensures.ok.1)

pub returns-in-Ok-clause-steps : goal.returns-in-Ok-clause-steps
returns-in-Ok-clause-steps g c =
    let some : 0 < rounds_of c.args.parameters.now.kdf = grind (arith, nat_tests, c.rounds_of.ensures, c.if-rounds_of-eq0.false) in
    c.in-Ok.ensures.steps ∙ ap (λ (n : ℕ). c.args.steps.now + n) (opened_steps c.args.parameters.now c.args.buffer.now c.in-Ok.ensures.ok.0 some)

pub returns-in-Err-clause-none : goal.returns-in-Err-clause-none
returns-in-Err-clause-none g c =
    let some : 0 < rounds_of c.args.parameters.now.kdf = grind (arith, nat_tests, c.rounds_of.ensures, c.if-rounds_of-eq0.false) in
    pbes2_none c.args.parameters.now c.args.password.now c.args.buffer.now c.in-Err.field-0 some c.in-Err.ensures.err

pub returns-in-Err-clause-left : goal.returns-in-Err-clause-left
returns-in-Err-clause-left g c =
    let some : 0 < rounds_of c.args.parameters.now.kdf = grind (arith, nat_tests, c.rounds_of.ensures, c.if-rounds_of-eq0.false) in
    left_refused c.args.parameters.now c.args.password.now c.args.buffer.now _ c.in-Err.field-0 some c.in-Err.ensures.err c.in-Err.ensures.left

pub returns-in-Err-clause-steps : goal.returns-in-Err-clause-steps
returns-in-Err-clause-steps g c =
    let some : 0 < rounds_of c.args.parameters.now.kdf = grind (arith, nat_tests, c.rounds_of.ensures, c.if-rounds_of-eq0.false) in
    refused_steps c.args.parameters.now c.args.password.now c.args.buffer.now c.in-Err.field-0 _ _ some c.in-Err.ensures.err c.in-Err.ensures.refused

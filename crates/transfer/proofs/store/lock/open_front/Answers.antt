use Rattle.std.proofs.Common.{◌≡◌, ◌≤◌, arith, length, take}
use Rattle.std.specs.Prelude.{Some}
use Rattle.p12.specs.AlgorithmIdentifier.{unlock}
use Rattle.p12.specs.AlgorithmView.{seen_algorithm}
use Rattle.p12.proofs.DefinitionLaws.{taken_most, unlock_opened}
use Rattle.transfer.proofs.Overwriting.{if_at}
use Rattle.transfer.proofs.store.lock.open_front.Goals as goal

pub returns-in-Ok-Some-clause-opened : goal.returns-in-Ok-Some-clause-opened
returns-in-Ok-Some-clause-opened g c =
    let a = seen_algorithm c.args.algorithm.now in
    let new = c.decrypt_in_place_counted.new.buffer in
    let s = if_at (λ n. (n ≤ length new) × (unlock a c.args.password.now c.args.text.now ≡ Some (take n new))) c.in-Ok-Some.field-0 c.in-Ok-Some.len c.in-Ok-Some.field-0-is c.in-Ok-Some.ensures.some in
    let o = unlock_opened a c.args.password.now c.args.text.now _ s.1 in
    (s.0, s.1, (grind arith, grind arith), grind (arith, o.all, c.in-Ok-Some.ensures.steps))

pub returns-in-Ok-Some-clause-at_most : goal.returns-in-Ok-Some-clause-at_most
returns-in-Ok-Some-clause-at_most g c = grind (arith, taken_most (seen_algorithm c.args.algorithm.now) c.args.text.now)

pub returns-in-Ok-None-clause-at_most : goal.returns-in-Ok-None-clause-at_most
returns-in-Ok-None-clause-at_most g c = grind (arith, taken_most (seen_algorithm c.args.algorithm.now) c.args.text.now)

pub returns-in-Err-clause-at_most : goal.returns-in-Err-clause-at_most
returns-in-Err-clause-at_most g c = grind (arith, taken_most (seen_algorithm c.args.algorithm.now) c.args.text.now)

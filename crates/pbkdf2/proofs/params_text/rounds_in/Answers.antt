use Rattle.std.proofs.Common.{arith}
use Rattle.pbkdf2.proofs.OneReading.{one_number}
use Rattle.pbkdf2.proofs.params_text.rounds_in.Goals as goal

pub returns-then-rounds-lt-MIN_ROUNDS-clause-none : goal.returns-then-rounds-lt-MIN_ROUNDS-clause-none
returns-then-rounds-lt-MIN_ROUNDS-clause-none c = λ n is small least.
    let read = c.in-Ok.ensures.ok in
    let same = one_number c.args.value n c.in-Ok.rounds small read.0 is read.1 in
    omega (arith, same, least)

use Rattle.std.proofs.Common.{arith}
use Rattle.pbkdf2.proofs.OneReading.{one_number}
use Rattle.pbkdf2.proofs.params_text.length_in.Goals as goal

pub returns-then-len-gt-MAX_OUTPUT_LENGTH-clause-none : goal.returns-then-len-gt-MAX_OUTPUT_LENGTH-clause-none
returns-then-len-gt-MAX_OUTPUT_LENGTH-clause-none c = λ n is most.
    let read = c.in-Ok.ensures.ok in
    let same = one_number c.args.value n c.in-Ok.len (omega (arith, most)) read.0 is read.1 in
    omega (arith, same, most)

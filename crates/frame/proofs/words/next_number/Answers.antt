use Rattle.std.proofs.Common.{arith}
use Rattle.frame.proofs.WordLists.{one_number}
use Rattle.frame.proofs.words.next_number.Goals as goal

pub returns-then-n-least-clause-none : goal.returns-then-n-least-clause-none
returns-then-n-least-clause-none c = λ m rest low high is.
    omega (arith, one_number _ _ _ rest c.in_ok-n.n m c.in_ok-word.ensures c.in_ok-n.ensures.found.1 (omega arith) (omega arith) is)

pub returns-then-n-most-clause-none : goal.returns-then-n-most-clause-none
returns-then-n-most-clause-none c = λ m rest low high is.
    omega (arith, one_number _ _ _ rest c.in_ok-n.n m c.in_ok-word.ensures c.in_ok-n.ensures.found.1 (omega arith) (omega arith) is)

use Rattle.std.proofs.Common.{arith, ap, length, ◌==◌}
use Rattle.frame.proofs.Lines.{unsplit}
use Rattle.frame.proofs.input_text.split_line.Goals as goal

pub returns-in_default : goal.returns-in_default
returns-in_default c = unsplit c.args.text.now (length c.args.text.now) (omega arith) (λ k lt e. c.in_default.ensures k (omega arith) lt (ap (λ x. x == 10) e))

pub returns-then-at-text : goal.returns-then-at-text
returns-then-at-text c =
    unsplit c.args.text.now c.in-Some.at (omega (arith, c.if-at-text.true)) (λ k lt e. c.in-Some.ensures.0.before k (omega arith) lt (ap (λ x. x == 10) e))

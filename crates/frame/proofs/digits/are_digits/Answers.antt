use Rattle.std.proofs.Common.{arith}
use Rattle.std.proofs.lemmas.List.{take_all}
use Rattle.frame.proofs.Encoded.{digits_more, digits_none}
use Rattle.frame.proofs.digits.are_digits.Goals as goal

pub loop-octet-preserved : goal.loop-octet-preserved
loop-octet-preserved c = record {
  every = digits_more c.args.text.now c.loop-octet.octet-index _ _ (omega arith) c.loop-octet.invariant.every c.is_digit-all.ensures;
  some = digits_none c.args.text.now c.loop-octet.octet-index _ _ (omega arith) c.loop-octet.invariant.some c.is_digit-all.ensures;
}

pub returns-clause-every : goal.returns-clause-every
returns-clause-every c = λ e.
    let whole = take_all c.loop-octet.octet-index c.args.text.now (omega arith) in
    rw whole at (c.loop-octet.invariant.every e)

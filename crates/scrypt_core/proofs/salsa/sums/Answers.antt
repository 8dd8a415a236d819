use Rattle.std.proofs.Common.{arith, refl, ◌∙◌, ◌<◌, ◌≢◌, ◌+◌, ◌%◌, ◌^◌, length, get_or, below_more, get_or-set_other, get_or-set_same}
use Rattle.std.proofs.lemmas.List.{length-set}
use Rattle.std.proofs.lemmas.List.FromFn.{fill_by_all}
use Rattle.scrypt_core.proofs.salsa.sums.Goals as goal

pub loop-i-preserved : goal.loop-i-preserved
loop-i-preserved c = record {
  long = length-set c.loop-i.sum c.loop-i.i _ ∙ c.loop-i.invariant.long;
  each =
      below_more _ _
      (λ k h. let ne : k ≢ c.loop-i.i = omega arith in rw get_or-set_other (c.loop-i.invariant.each k h))
      (let lt : c.loop-i.i < length c.loop-i.sum = omega (arith, c.loop-i.invariant.long) in rw get_or-set_same refl);
}

pub returns : goal.returns
returns c = fill_by_all (λ k. (get_or c.args.v k 0 + get_or c.args.w k 0) % 2 ^ 32) c.loop-i.sum 16 0 c.loop-i.invariant.long (λ k h. c.loop-i.invariant.each k (omega arith))

use Rattle.std.proofs.Common.{arith, ◌∙◌, ◌<◌, ◌≢◌, ◌+◌, ◌*◌, [], ◌∷◌, length, get_or, below_more, get_or-set_other, get_or-set_same}
use Rattle.std.proofs.lemmas.List.{length-set}
use Rattle.std.proofs.lemmas.List.FromFn.{fill_by_all}
use Rattle.std.specs.Int.{w32, from_le_bytes}
use Rattle.scrypt_core.proofs.salsa.load.Goals as goal

pub loop-i-preserved : goal.loop-i-preserved
loop-i-preserved c = record {
  long = length-set c.loop-i.w c.loop-i.i _ ∙ c.loop-i.invariant.long;
  each =
      below_more _ _
      (λ k h. let ne : k ≢ c.loop-i.i = omega arith in rw get_or-set_other (c.loop-i.invariant.each k h))
      (let lt : c.loop-i.i < length c.loop-i.w = omega (arith, c.loop-i.invariant.long) in rw get_or-set_same c.from_le_bytes.ensures);
}

pub returns : goal.returns
returns c = fill_by_all (λ k. from_le_bytes w32 (get_or c.args.b.now (4 * k) 0 ∷ get_or c.args.b.now (4 * k + 1) 0 ∷ get_or c.args.b.now (4 * k + 2) 0 ∷ get_or c.args.b.now (4 * k + 3) 0 ∷ [])) c.loop-i.w 16 0 c.loop-i.invariant.long (λ k h. c.loop-i.invariant.each k (omega arith))

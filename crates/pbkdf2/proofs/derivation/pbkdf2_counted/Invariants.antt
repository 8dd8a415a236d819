use Rattle.std.proofs.Common.{◌≡◌, ◌+◌, ◌*◌, ◌++◌, take, drop, length}
use Rattle.std.specs.Prelude.{max}
use Rattle.pbkdf2.specs.Pbkdf2.{blocks}
use Rattle.pbkdf2.proofs.derivation.pbkdf2_counted.Given as goal

abbrev pub invariant-loop-done : goal.invariant-loop-done
invariant-loop-done g l = record {
  value : l.res ≡ take (length l.fn.res) (blocks (g.P.Prf.prf l.password) l.salt l.rounds l.done) ++ drop (l.done * g.P.Prf.OUTPUT) l.fn.res;
  steps : l.steps ≡ l.fn.steps + max l.rounds 1 * l.done;
}

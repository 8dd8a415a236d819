use Rattle.std.proofs.Common.{◌≡◌, ◌+◌, ◌++◌, take, replicate}
use Rattle.pkcs12_kdf.specs.Derivation.{hashed}
use Rattle.pkcs12_kdf.proofs.derivation.hash_rounds.Given as goal

abbrev pub invariant-loop-done : goal.invariant-loop-done
invariant-loop-done g l = record {
  value : take g.H.HashFn.OUTPUT l.answer ≡ hashed g.H.HashFn.digest l.done (replicate g.H.HashFn.BLOCK l.id ++ l.input);
  steps : l.steps ≡ l.fn.steps + l.done;
}

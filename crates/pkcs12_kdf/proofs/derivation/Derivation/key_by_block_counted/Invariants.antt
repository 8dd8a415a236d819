use Rattle.std.proofs.Common.{◌≡◌, ◌+◌, ◌*◌, ◌%◌, ◌++◌, length}
use Rattle.pkcs12_kdf.specs.Numbers.{numbers}
use Rattle.pkcs12_kdf.specs.Derivation.{answer, answers, inputs_at, fill}
use Rattle.pkcs12_kdf.proofs.derivation.Derivation.key_by_block_counted.Given as goal

abbrev pub invariant-loop-turn : goal.invariant-loop-turn
invariant-loop-turn g l = record {
  key : l.key.items ≡ answers g.H.HashFn.BLOCK (answer g.H.HashFn.BLOCK g.H.HashFn.digest l.self.rounds l.id) (numbers g.H.HashFn.BLOCK (fill g.H.HashFn.BLOCK l.self.salt.now ++ fill g.H.HashFn.BLOCK l.self.password.now)) l.turn;
  inputs : numbers g.H.HashFn.BLOCK l.inputs.items ≡ inputs_at g.H.HashFn.BLOCK (answer g.H.HashFn.BLOCK g.H.HashFn.digest l.self.rounds l.id) (numbers g.H.HashFn.BLOCK (fill g.H.HashFn.BLOCK l.self.salt.now ++ fill g.H.HashFn.BLOCK l.self.password.now)) l.turn;
  whole : length l.inputs.items % g.H.HashFn.BLOCK ≡ 0;
  steps : l.steps ≡ l.fn.steps + l.self.rounds * l.turn;
}
